-- Laws of numbers as words.
use Rattle.std.proofs.Common.{◌≡◌, ℕ, ◌+◌, ◌*◌, ◌^◌, ◌<◌, Bool, true, false, List, [], ◌∷◌, Some, None, Result, Ok, Err, ◌⊎◌, inl, inr, nat_lt, get_or, refl, arith}
use Rattle.std.specs.Char.{digit_value}
use Rattle.std.specs.Result.{OkIff, result_ok}
use Rattle.std.specs.Str.Parse.{AllDigits, IsNumeral, digits_value, digits_value_after, ParsesUnsigned}
use Rattle.std.proofs.lemmas.Bool.Decides.{nat_tests}
use Rattle.std.proofs.lemmas.Str.Parse.{without_leading_plus_none}
use Rattle.vhost_lines.specs.Number.{digits_behind, numeral, below}

-- what digits write, where all of them are
pub digits-all : (radix n : ℕ) (digits : List ℕ) → AllDigits radix digits → digits_behind radix n digits ≡ Some (digits_value_after radix n digits)
digits-all radix n [] all = refl
digits-all radix n (c ∷ cs) all = let rest = digits-all radix (n * radix + digit_value c) cs all.1 in let first : digit_value c < radix = all.0 in grind (arith, nat_tests)

-- either all of them are digits, or one is none
pub digits-cases : (radix n : ℕ) (digits : List ℕ) → AllDigits radix digits ⊎ (digits_behind radix n digits ≡ None)
digits-cases radix n [] = inl tt
digits-cases radix n (c ∷ cs) = step (nat_lt (digit_value c) radix) refl (digits-cases radix (n * radix + digit_value c) cs) where
  step : (b : Bool) → nat_lt (digit_value c) radix ≡ b → AllDigits radix cs ⊎ (digits_behind radix (n * radix + digit_value c) cs ≡ None)
      → ((digit_value c < radix) × AllDigits radix cs) ⊎ (digits_behind radix n (c ∷ cs) ≡ None)
  step false is _ = inr (rw is refl)
  step true is (inl rest) = inl (grind (arith, nat_tests), rest)
  step true is (inr none) = inr (rw is none)

-- a number that was parsed, where no sign stands before it
pub numeral-parsed : {E : Type 0} (radix : ℕ) (digits : List ℕ) (r : Result ℕ E)
    → OkIff r (IsNumeral radix digits × (digits_value radix digits < 2 ^ 64)) (digits_value radix digits) → result_ok r ≡ below (2 ^ 64) (numeral radix digits)
numeral-parsed radix [] (Ok x) parsed = absurd (omega (arith, parsed.0.0.0))
numeral-parsed radix [] (Err e) parsed = refl
numeral-parsed radix (c ∷ cs) (Ok x) parsed =
    let is = digits-all radix 0 (c ∷ cs) parsed.0.0.1 in
    let small : digits_value radix (c ∷ cs) < 2 ^ 64 = parsed.0.1 in
    let value : x ≡ digits_value radix (c ∷ cs) = parsed.1 in
    rw value (rw is (grind (arith, nat_tests)))
numeral-parsed radix (c ∷ cs) (Err e) parsed = from (digits-cases radix 0 (c ∷ cs)) where
  from : AllDigits radix (c ∷ cs) ⊎ (digits_behind radix 0 (c ∷ cs) ≡ None) → None ≡ below (2 ^ 64) (digits_behind radix 0 (c ∷ cs))
  from (inr none) = rw none refl
  from (inl all) =
      let is = digits-all radix 0 (c ∷ cs) all in
      let great : digits_value radix (c ∷ cs) < 2 ^ 64 → ⊥ = λ small. parsed ((omega arith, all), small) in
      rw is (grind (arith, nat_tests, great))

pub numeral-unsigned : {E : Type 0} (radix : ℕ) (digits : List ℕ) (r : Result ℕ E)
    → ParsesUnsigned 64 radix digits r → (get_or digits 0 0 ≡ 43 → ⊥) → result_ok r ≡ below (2 ^ 64) (numeral radix digits)
numeral-unsigned radix digits r parsed unsigned = numeral-parsed radix digits r (rw (without_leading_plus_none digits unsigned) at parsed)
