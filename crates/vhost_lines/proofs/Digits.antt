-- The digits that `hex` writes are those that bytes show.
use Rattle.std.proofs.Common.{◌≡◌, ℕ, zero, suc, ◌/◌, ◌%◌, ◌<◌, ◌==◌, Bool, true, false, ◌&&◌, inl, inr, List, [], ◌∷◌, slice_index, refl, sym, ap, ◌∙◌, arith}
use Rattle.std.proofs.lemmas.Bool.{and_parts, cases_lt, eqb-true}
use Rattle.std.proofs.lemmas.Bool.Decides.{nat_tests}
use Rattle.std.proofs.lemmas.Fmt.{hex_one_digit}
use Rattle.std.proofs.lemmas.List.{get_or_past}
use Rattle.std.specs.Str.{IsAscii}
use Rattle.hex.proofs.HexLemmas.{IsAscii-encode_with}
use Rattle.std.specs.Fmt.{digits, digit_glyph}
use Rattle.std.specs.List.{flat_map}
use Rattle.hex.specs.Hex.{IsBytes, encode_with, encode_lower, lower_digits}
use Rattle.vhost_lines.specs.Numbers.{byte_text}

-- whether the table has each digit below n
abbrev has_below : ℕ → Bool
has_below zero = true
has_below (suc n) = (slice_index lower_digits n == digit_glyph false n) && has_below n

has_below-at : (n d : ℕ) → has_below n ≡ true → d < n → slice_index lower_digits d ≡ digit_glyph false d
has_below-at zero d all lt = absurd (omega arith)
has_below-at (suc n) d all lt =
    let parts = and_parts (slice_index lower_digits n == digit_glyph false n) (has_below n) all in
    elim (cases_lt d n) [
      | inl below ↦ has_below-at n d parts.1 below
      | inr top ↦
          let e : d ≡ n = omega arith in
          rw e (eqb-true (slice_index lower_digits n) (digit_glyph false n) parts.0)
    ]

-- a digit of the table, as a number shows it
digit : (d : ℕ) → d < 16 → slice_index lower_digits d ∷ [] ≡ digits 16 false d
digit d lt = ap (λ (glyph : ℕ). glyph ∷ []) (has_below-at 16 d refl lt) ∙ sym (hex_one_digit false d lt)

-- bytes as pairs of digits
pub encode_lower-bytes : (bytes : List ℕ) → IsBytes bytes → encode_lower bytes ≡ flat_map byte_text bytes
unfolding encode_with
encode_lower-bytes [] fits = refl
encode_lower-bytes (byte ∷ bytes) fits =
    let first : byte < 256 = fits 0 in
    let high = digit (byte / 16) (omega arith) in
    let low = digit (byte % 16) (omega arith) in
    let rest = encode_lower-bytes bytes (λ i. fits (suc i)) in
    rw (← high, ← low, rest)

glyph_is_ascii : (d : ℕ) → d < 16 → digit_glyph false d < 128
glyph_is_ascii d lt = grind (arith, nat_tests)

IsAscii-lower_digits : IsAscii lower_digits
IsAscii-lower_digits i = elim (cases_lt i 16) [
  | inl below ↦ rw (has_below-at 16 i refl below) (glyph_is_ascii i below)
  | inr past ↦ rw (get_or_past lower_digits i 0 past) (omega arith)
]

-- the digits of bytes are ASCII
pub IsAscii-encode_lower : (bytes : List ℕ) → IsAscii (encode_lower bytes)
IsAscii-encode_lower bytes = IsAscii-encode_with lower_digits bytes IsAscii-lower_digits
