-- Numbers as bytes, the lowest digit first.
use Rattle.std.specs.Prelude.{ℕ, List}
use Rattle.byteorder.specs.Endian.{little_bytes, little_from}

-- the k low digits of n to the base 256, the lowest first
abbrev pub digits : ℕ → ℕ → List ℕ
digits k n = little_bytes k n

-- the number in the k bytes from a place on
abbrev pub number_at : ℕ → ℕ → List ℕ → ℕ
number_at place k bytes = little_from place k bytes
