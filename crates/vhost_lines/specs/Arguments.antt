-- A word as an argument that is more than a number.
use Rattle.std.specs.Prelude.{ℕ, Bool, true, false, List, [], ◌∷◌, Option, Some, None, option_map, option_and_then, bit_and, ◌==◌, nat_lt, if◌then◌else◌}
use Rattle.std.specs.Result.{result_ok}
use Rattle.hex.specs.Hex.{decode_of, decode_sized}
use Rattle.vhost_link.specs.declared.handle.Kind.TheVariants.{NoSocket, UnixStream}
use Rattle.vhost_link.specs.declared.plain.PlainHandle.{PlainHandle}
use Rattle.vhost_message.specs.HeardReq.{request_of}
use Rattle.vhost_message.specs.Transfer.{direction_at, direction_number, phase_at, phase_number}
use Rattle.vhost_message.specs.declared.heard_req.HeardReq.{HeardReq}
use Rattle.vhost_message.specs.declared.records.shared.VhostUserSharedMsg.{VhostUserSharedMsg}
use Rattle.vhost_lines.specs.Number.{u64, u32}

-- what follows from a value, where there is one
infixl 10 ◌>>=◌
abbrev pub ◌>>=◌ : {A B : Type 0} → Option A → (A → Option B) → Option B
o >>= f = option_and_then f o

-- off, which is 0, or on, which is 1
abbrev pub enabled_of : ℕ → Option Bool
enabled_of n = if n == 0 then Some false else if n == 1 then Some true else None

abbrev pub enabled : List ℕ → Option Bool
enabled word = u64 word >>= enabled_of

-- a number that has no bit but those of a mask
abbrev pub within : ℕ → ℕ → Option ℕ
within mask n = if bit_and n mask == n then Some n else None

-- protocol features, each of them known
abbrev pub protocol_features : List ℕ → Option ℕ
protocol_features word = u64 word >>= within 0x7f_ffff

-- flags of configuration space, each of them known
abbrev pub config_flags : List ℕ → Option ℕ
config_flags word = u32 word >>= within 3

-- the flags of a request's header that may be chosen: none, or that which asks for an acknowledgement
abbrev pub header_flags : List ℕ → Option ℕ
header_flags word = u32 word >>= within 8

-- the handle of a number: a Unix stream socket from 1000 on
abbrev pub handle_of : ℕ → PlainHandle
handle_of id = record { id = id; kind = if nat_lt id 1000 then NoSocket else UnixStream }

abbrev pub handle : List ℕ → Option PlainHandle
handle word = option_map handle_of (u32 word)

-- a request, by its code
abbrev pub request : List ℕ → Option HeardReq
request word = u32 word >>= request_of

-- the number of a direction, and of a phase, in which the state of a device is transferred
abbrev pub direction : List ℕ → Option ℕ
direction word = option_map direction_number (u32 word >>= λ n. result_ok (direction_at n))

abbrev pub phase : List ℕ → Option ℕ
phase word = option_map phase_number (u32 word >>= λ n. result_ok (phase_at n))

-- bytes, one or more, of which two hexadecimal digits each write one
abbrev pub byte_string : List ℕ → Option (List ℕ)
byte_string [] = None
byte_string (digit ∷ digits) = result_ok (decode_of (digit ∷ digits))

-- the name of a shared object, written by its 16 bytes
abbrev pub object_name : List ℕ → Option VhostUserSharedMsg
object_name word = option_map (λ bytes. record { uuid = bytes }) (result_ok (decode_sized word 16))
