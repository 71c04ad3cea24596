-- Indices of 16 bits that count on past their end, and when the other side is to be told: virtio 1.2, 2.7.6 to 2.7.10.
use Rattle.std.specs.Prelude.{◌≡◌, ℕ, ◌+◌, ◌-◌, ◌<◌, ◌%◌, ◌^◌}

-- by how many an index went on from old to new
abbrev pub moved : ℕ → ℕ → ℕ
moved old new = (new + (2 ^ 16 - old)) % 2 ^ 16

-- an index that goes on by one
abbrev pub next_index : ℕ → ℕ
next_index i = (i + 1) % 2 ^ 16

-- .. or back by one
abbrev pub previous_index : ℕ → ℕ
previous_index i = (i + (2 ^ 16 - 1)) % 2 ^ 16

-- on the way from old to new, the entry that the other side asked for was made
abbrev pub Passes : ℕ → ℕ → ℕ → Type 0
Passes old new event = (k : ℕ) × (k < moved old new) × ((old + k) % 2 ^ 16 ≡ event)
