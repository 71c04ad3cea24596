-- Codes that are numbered one after another.
use Rattle.std.specs.Prelude.{◌≡◌, ℕ, suc, Bool, true, false, List, [], ◌∷◌, Option, Some, None, unwrap_or, is_some, ◌==◌, if◌then◌else◌, refl}
use Rattle.std.proofs.Common.{ap, sym, ◌∙◌}
use Rattle.std.proofs.lemmas.Bool.{eqb-true, false≢true}

-- the one that has the number n, where the first has the number k and each further one the next
abbrev pub find : {R : Type 0} → ℕ → ℕ → List R → Option R
find n k [] = None
find n k (r ∷ rs) = if n == k then Some r else find n (suc k) rs

-- they are numbered from k on
abbrev pub are_numbered : {R : Type 0} → (R → ℕ) → ℕ → List R → Bool
are_numbered number k [] = true
are_numbered number k (r ∷ rs) = if number r == k then are_numbered number (suc k) rs else false

-- where the first has the number, the code that is found is the first; else it is found among the rest
found : {R : Type 0} (number : R → ℕ) (n k : ℕ) (q : R) (rs : List R) (r : R) (is_first in_order : Bool) → (n == k) ≡ is_first → (number q == k) ≡ in_order
    → (are_numbered number (suc k) rs ≡ true → find n (suc k) rs ≡ Some r → number r ≡ n)
    → (if in_order then are_numbered number (suc k) rs else false) ≡ true → (if is_first then Some q else find n (suc k) rs) ≡ Some r → number r ≡ n
found number n k q rs r true true same first rest numbered e =
    ap number (sym (ap (λ o. unwrap_or o q) e)) ∙ eqb-true (number q) k first ∙ sym (eqb-true n k same)
found number n k q rs r false true same first rest numbered e = rest numbered e
found number n k q rs r is_first false same first rest numbered e = absurd (false≢true numbered)

pub number-find : {R : Type 0} (number : R → ℕ) (n k : ℕ) (rs : List R) (r : R) → are_numbered number k rs ≡ true → find n k rs ≡ Some r → number r ≡ n
number-find number n k [] r numbered e = absurd (false≢true (ap is_some e))
number-find number n k (q ∷ rs) r numbered e =
    found number n k q rs r (n == k) (number q == k) refl refl (number-find number n (suc k) rs r) numbered e

-- the code that a number is heard as: that of any number, or of one that has a name alone
abbrev pub heard_by : {R : Type 0} → (code any : ℕ → Option R) → (any_number : Bool) → ℕ → Option R
heard_by code any any_number n = if any_number then any n else code n
