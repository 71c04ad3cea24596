-- Bytes and numbers as text.
use Rattle.std.specs.Prelude.{false, ℕ, ◌/◌, ◌%◌, List, [], ◌∷◌, ◌++◌, codes}
use Rattle.std.specs.Fmt.{digits}
use Rattle.std.specs.List.{flat_map, join_by}

-- a number in hexadecimal
abbrev pub hex_text : ℕ → List ℕ
hex_text n = codes "0x" ++ digits 16 false n

-- numbers with commas between them, or `-`
abbrev pub numbers_text : List ℕ → List ℕ
numbers_text [] = codes "-"
numbers_text (n ∷ ns) = join_by hex_text (codes ",") (n ∷ ns)

-- a byte as two hexadecimal digits
abbrev pub byte_text : ℕ → List ℕ
byte_text byte = digits 16 false (byte / 16) ++ digits 16 false (byte % 16)

-- bytes, or `-`
abbrev pub bytes_text : List ℕ → List ℕ
bytes_text [] = codes "-"
bytes_text (byte ∷ bytes) = flat_map byte_text (byte ∷ bytes)
