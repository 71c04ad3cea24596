-- A word as a number.
use Rattle.std.specs.Prelude.{ℕ, ◌+◌, ◌*◌, ◌^◌, List, [], ◌∷◌, Option, Some, None, drop, codes, nat_lt, nat_eq, if◌then◌else◌}
use Rattle.std.specs.Char.{digit_value, is_digit}
use Rattle.std.specs.List.{starts_with}

-- the number that digits write behind those of n
abbrev pub digits_behind : ℕ → ℕ → List ℕ → Option ℕ
digits_behind radix n [] = Some n
digits_behind radix n (digit ∷ digits) =
    if is_digit digit radix then digits_behind radix (n * radix + digit_value digit) digits else None

-- the number that one digit or more write
abbrev pub numeral : ℕ → List ℕ → Option ℕ
numeral radix [] = None
numeral radix (digit ∷ digits) = digits_behind radix 0 (digit ∷ digits)

-- a number: hexadecimal digits behind `0x`, or decimal digits
abbrev pub number : List ℕ → Option ℕ
number word = if starts_with nat_eq word (codes "0x") then numeral 16 (drop 2 word) else numeral 10 word

-- a number that is below a bound
abbrev pub below : ℕ → Option ℕ → Option ℕ
below bound None = None
below bound (Some n) = if nat_lt n bound then Some n else None

-- numbers of 64, 32 and 16 bits
abbrev pub u64 : List ℕ → Option ℕ
u64 word = below (2 ^ 64) (number word)

abbrev pub u32 : List ℕ → Option ℕ
u32 word = below (2 ^ 32) (number word)

abbrev pub u16 : List ℕ → Option ℕ
u16 word = below (2 ^ 16) (number word)
