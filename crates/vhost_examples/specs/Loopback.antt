-- What a loopback does, by the bytes that it is still to hand out.
use Rattle.std.specs.Prelude.{◌≡◌, ℕ, List, [], ◌++◌}
use Rattle.vhost_link.specs.Law.{Event, Handed, Ended, Taken, Refused}
use Rattle.vhost_protocol.specs.Stream.{Cell, plain}
use Rattle.vhost_examples.specs.declared.loopback.Ticket.{Ticket}

-- these bytes, none of which brings a handle
abbrev pub Plain : List (Cell Ticket) → (List ℕ → Type 0) → Type 0
Plain cells of_bytes = (bytes : List ℕ) × (cells ≡ plain bytes) × of_bytes bytes

-- what it hands out stood at the front, what it takes in goes to the end, and it tells an end where nothing is left
abbrev pub event : List ℕ → Event Ticket → List ℕ → Type 0
event old (Handed cells) new = Plain cells (λ bytes. old ≡ bytes ++ new)
event old Ended new = (old ≡ []) × (new ≡ [])
event old (Taken cells) new = Plain cells (λ bytes. new ≡ old ++ bytes)
event old (Refused cause) new = new ≡ old
