-- The twelve bytes at the head of a message.
use Rattle.std.specs.Prelude.{ℕ, ◌+◌, ◌*◌, ◌/◌, ◌%◌, Bool, not, ◌&&◌, List, ◌++◌, ◌==◌, nat_le, nat_lt, Option, is_some}
use Rattle.vhost_message.specs.Bits.{has_bit}
use Rattle.vhost_message.specs.Text.{digits, number_at}
use Rattle.vhost_message.specs.declared.header_bit.TheConstants.{REPLY}
use Rattle.vhost_message.specs.declared.limits.TheConstants.{MAX_MSG_SIZE}

-- the three numbers: the request, the flags, and the size of the body
pub record Header : Type 0 where
  pub code : ℕ
  pub flags : ℕ
  pub size : ℕ

-- the twelve bytes of a header
abbrev pub header_text : Header → List ℕ
header_text h = digits 4 h.code ++ digits 4 h.flags ++ digits 4 h.size

-- the header that twelve bytes are read as
abbrev pub header_of : List ℕ → Header
header_of bytes = record { code = number_at 0 4 bytes; flags = number_at 4 4 bytes; size = number_at 8 4 bytes }

-- version 1, no unknown flag, and no body above the greatest size (that the code is known comes besides)
abbrev pub is_valid_header : Header → Bool
is_valid_header h = h.flags % 4 == 1 && nat_lt h.flags 16 && nat_le h.size MAX_MSG_SIZE

-- of the flags only REPLY and NEED_REPLY, with the version 1
abbrev pub with_version : ℕ → ℕ
with_version flags = flags / 4 % 4 * 4 + 1

-- the first answers the second: both have the same known code, the first has REPLY, and the second has not
abbrev pub is_reply_for : {R : Type 0} → (ℕ → Option R) → Header → Header → Bool
is_reply_for code_of reply request = is_some (code_of reply.code) && reply.code == request.code && has_bit reply.flags REPLY && not (has_bit request.flags REPLY)

-- the same three numbers
abbrev pub is_same : Header → Header → Bool
is_same a b = a.code == b.code && a.flags == b.flags && a.size == b.size
