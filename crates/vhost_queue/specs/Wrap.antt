-- Places in a packed ring: virtio 1.2, 2.8.1.
use Rattle.std.specs.Prelude.{◌≡◌, ℕ, ◌+◌, ◌-◌, ◌*◌, ◌%◌, ◌<◌, Bool, true, false, not, ◌&&◌, ◌==◌, nat_lt, nat_le, bit_and, if◌then◌else◌}
use Rattle.vhost_queue.specs.declared.wrap.Position.{Position}

-- a place in the ring that goes on by n descriptors: behind the last comes the first, and the wrap counter changes
abbrev pub advanced : ℕ → Position → ℕ → Position
advanced size p n =
    if nat_lt (p.index + n) size then record { index = p.index + n; wrap = p.wrap }
    else record { index = (p.index + n) - size; wrap = not p.wrap }

-- VIRTQ_DESC_F_AVAIL and _USED
abbrev pub is_avail : ℕ → Bool
is_avail flags = not (bit_and flags 128 == 0)

abbrev pub is_used : ℕ → Bool
is_used flags = not (bit_and flags 32768 == 0)

-- whether a descriptor with these flags is available, where the device has this wrap counter
abbrev pub is_available : Bool → ℕ → Bool
is_available true flags = is_avail flags && not (is_used flags)
is_available false flags = not (is_avail flags) && is_used flags

-- a place as 16 bits: the wrap counter above the index
abbrev pub position_of : ℕ → Position
position_of n = record { index = n % 32768; wrap = nat_le 32768 n }

abbrev pub number_of : Position → ℕ
number_of p = p.index + (if p.wrap then 32768 else 0)

-- a place on two rounds of a ring, and how far it is from one to another
abbrev pub on_rounds : ℕ → Position → ℕ
on_rounds size p = if p.wrap then p.index else p.index + size

abbrev pub further : ℕ → ℕ → ℕ → ℕ
further size p k = if nat_lt (p + k) (2 * size) then p + k else (p + k) - 2 * size

abbrev pub distance : ℕ → ℕ → ℕ → ℕ
distance size p q = if nat_le p q then q - p else (q + 2 * size) - p

-- on the way from old to new, the place that the driver asked for was passed
abbrev pub Passes : ℕ → Position → Position → Position → Type 0
Passes size old new event = (k : ℕ) × (k < distance size (on_rounds size old) (on_rounds size new)) × (further size (on_rounds size old) k ≡ on_rounds size event)
