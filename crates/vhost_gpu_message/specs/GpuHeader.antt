-- The twelve bytes at the head of a message to or from a display.
use Rattle.std.specs.Prelude.{◌≡◌, ◌^◌, ◌++◌, [], Bool, ◌||◌, ◌==◌}
use Rattle.byteorder.specs.Numbers.{little_number-reads_back}
use Rattle.vhost_message.specs.Text.{digits}
use Rattle.vhost_message.specs.declared.header_bit.TheConstants.{REPLY}
use Rattle.vhost_message.specs.Header.{Header, header_text, header_of}
use Rattle.vhost_message.specs.MsgHeader.{Fits}
use Rattle.vhost_gpu_message.specs.declared.header.VhostUserGpuMsgHeader.{VhostUserGpuMsgHeader}

-- the three numbers of a header
abbrev pub gpu_fields_of : {R : Type 0} → VhostUserGpuMsgHeader R → Header
gpu_fields_of h = record { code = h.request; flags = h.flags; size = h.size }

-- the header of three numbers
abbrev pub of_gpu_fields : {R : Type 0} → Header → VhostUserGpuMsgHeader R
of_gpu_fields h = record { request = h.code; flags = h.flags; size = h.size; of = record {} }

-- no flag but REPLY, and any size (that the code is known comes besides)
abbrev pub is_valid_gpu_header : Header → Bool
is_valid_gpu_header h = h.flags == 0 || h.flags == 2 ^ REPLY

pub gpu_header-reads_back : {R : Type 0} (h : VhostUserGpuMsgHeader R) → Fits (gpu_fields_of h) → of_gpu_fields (header_of (header_text (gpu_fields_of h))) ≡ h
gpu_header-reads_back h fits =
    let code = little_number-reads_back 4 h.request (digits 4 h.flags ++ digits 4 h.size) fits.code in
    let flags = little_number-reads_back 4 h.flags (digits 4 h.size) fits.flags in
    let size = little_number-reads_back 4 h.size [] fits.size in
    λ i. of_gpu_fields (record { code = code i; flags = flags i; size = size i })
