-- A header of a type of codes, by its three numbers.
use Rattle.std.specs.Prelude.{◌≡◌, ◌<◌, ◌^◌, [], ◌++◌}
use Rattle.vhost_message.specs.declared.header.VhostUserMsgHeader.{VhostUserMsgHeader}
use Rattle.byteorder.specs.Numbers.{little_number-reads_back}
use Rattle.vhost_message.specs.Text.{digits}
use Rattle.vhost_message.specs.Header.{Header, header_text, header_of}

-- the three numbers of a header
abbrev pub fields_of : {R : Type 0} → VhostUserMsgHeader R → Header
fields_of h = record { code = h.request; flags = h.flags; size = h.size }

-- the header of three numbers
abbrev pub of_fields : {R : Type 0} → Header → VhostUserMsgHeader R
of_fields h = record { request = h.code; flags = h.flags; size = h.size; of = record {} }

-- each number has 32 bits
pub record Fits (h : Header) : Type 0 where
  pub code : h.code < 2 ^ 32
  pub flags : h.flags < 2 ^ 32
  pub size : h.size < 2 ^ 32

pub header-reads_back : {R : Type 0} (h : VhostUserMsgHeader R) → Fits (fields_of h) → of_fields (header_of (header_text (fields_of h))) ≡ h
header-reads_back h fits =
    let code = little_number-reads_back 4 h.request (digits 4 h.flags ++ digits 4 h.size) fits.code in
    let flags = little_number-reads_back 4 h.flags (digits 4 h.size) fits.flags in
    let size = little_number-reads_back 4 h.size [] fits.size in
    λ i. of_fields (record { code = code i; flags = flags i; size = size i })
