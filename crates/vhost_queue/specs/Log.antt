-- The dirty log: which bits stand for the pages of a written range. Of the vhost-user specification, "Migration".
use Rattle.std.specs.Prelude.{ℕ, ◌+◌, ◌*◌, ◌<◌}

-- the page of 4096 bytes has one of the n bytes at a
abbrev pub HasByte : ℕ → ℕ → ℕ → Type 0
HasByte a n page = (4096 * page < a + n) × (a < 4096 * (page + 1)) × (0 < n)
