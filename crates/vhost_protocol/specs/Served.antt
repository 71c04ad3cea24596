-- What a handler lets its peer know of an answer.
use Rattle.std.specs.Prelude.{ℕ, Bool, List, [], Option, Some, None, if◌then◌else◌}
use Rattle.vhost_protocol.specs.Stream.{Cell}
use Rattle.vhost_protocol.specs.Written.{Payload, U64, Written, written_cells, reply_to}

-- nothing, an acknowledgement (whether it succeeded), or a reply
pub data Served (H : Type 0) : Type 0 where
  Silent : Served H
  Acknowledged : Bool → Served H
  Replied : Payload → List H → Served H

-- the message that says so; an acknowledgement is 0 for success, else 1 (VHOST_USER_PROTOCOL_F_REPLY_ACK)
abbrev pub reply : {R H : Type 0} → R → Served H → Option (Written R H)
reply r Silent = None
reply r (Acknowledged agreed) = Some (reply_to r (U64 (if agreed then 0 else 1)) [])
reply r (Replied payload handles) = Some (reply_to r payload handles)

-- the cells of a message, if there is one
abbrev pub cells_of : {R H : Type 0} → (R → ℕ) → Option (Written R H) → List (Cell H)
cells_of number_of None = []
cells_of number_of (Some w) = written_cells number_of w
