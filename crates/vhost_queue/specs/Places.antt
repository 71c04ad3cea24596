-- Ranges, and ranges inside others.
use Rattle.std.specs.Prelude.{ℕ, ◌+◌, ◌≤◌}
use Rattle.vhost_queue.specs.declared.memory.HostRange.{HostRange}

abbrev pub at : ℕ → ℕ → HostRange
at a n = record { addr = a; len = n }

-- a range lies inside another
abbrev pub Within : HostRange → HostRange → Type 0
Within outer inner = (outer.addr ≤ inner.addr) × (inner.addr + inner.len ≤ outer.addr + outer.len)
