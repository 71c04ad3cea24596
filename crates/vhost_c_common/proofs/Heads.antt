-- The header of a reply as it comes.
use Rattle.std.proofs.Common.{◌≡◌, ℕ, ◌+◌, ◌-◌, ◌<◌, ◌≤◌, min, List, [], ◌∷◌, ◌++◌, length, take, refl, sym, ap, ◌∙◌, arith, append_assoc, ⊎_elim}
use Rattle.std.proofs.lemmas.List.{take_all, take_at, length-take-le, length-append, append-nil}
use Rattle.std.proofs.Math.Seq.{take-append-add}
use Rattle.std.proofs.lemmas.Bool.{cases_lt}

-- a list without an element
none : (xs : List ℕ) → length xs ≡ 0 → xs ≡ []
none [] e = refl
none (x ∷ xs) e = absurd (omega arith)

module _ (size c : ℕ) (head bytes : List ℕ) (whole : length head ≡ size) where
  -- nothing of it was missing
  pub was_whole : size ≤ c → take (c + length bytes) head ≡ take size (take c head ++ bytes)
  was_whole le =
      let all : length head ≤ c + length bytes = omega arith in let front : length head ≤ c = omega arith in
      take_all (c + length bytes) head all ∙ sym (ap (λ (h : List ℕ). take size (h ++ bytes)) (take_all c head front) ∙ take_at head bytes size whole)

  -- all of them are of it
  pub goes_on : (n : ℕ) (rest : List ℕ) → c + length bytes ≤ size → n ≡ length bytes → take (c + length bytes) (take c head ++ (take n bytes ++ rest)) ≡ take size (take c head ++ bytes)
  goes_on n rest le is =
      let front : c ≤ length head = omega arith in let at_front : length (take c head) ≡ c = length-take-le c head front in
      let both : length (take c head ++ bytes) ≡ c + length bytes = length-append (take c head) bytes ∙ ap (λ k. k + length bytes) at_front in
      let within : length bytes ≤ n = omega arith in let fits : length (take c head ++ bytes) ≤ size = omega arith in
      ap (λ (xs : List ℕ). take (c + length bytes) (take c head ++ (xs ++ rest))) (take_all n bytes within)
      ∙ ap (λ (xs : List ℕ). take (c + length bytes) xs) (sym (append_assoc (take c head) bytes rest))
      ∙ take_at (take c head ++ bytes) rest (c + length bytes) both
      ∙ sym (take_all size (take c head ++ bytes) fits)

  -- it is whole by the first of them
  pub gets_whole : (n : ℕ) (rest : List ℕ) → c + n ≡ size → n ≤ length bytes → length rest ≡ size - (c + n) → take (c + length bytes) (take c head ++ (take n bytes ++ rest)) ≡ take size (take c head ++ bytes)
  gets_whole n rest is le left =
      let front : c ≤ length head = omega arith in let at_front : length (take c head) ≡ c = length-take-le c head front in
      let nothing : length rest ≡ 0 = omega arith in
      let same : take c head ++ (take n bytes ++ rest) ≡ take c head ++ take n bytes = ap (λ (xs : List ℕ). take c head ++ xs) (ap (λ (xs : List ℕ). take n bytes ++ xs) (none rest nothing) ∙ append-nil (take n bytes)) in
      let long : length (take c head ++ take n bytes) ≡ c + n = length-append (take c head) (take n bytes) ∙ ap (λ k. k + length (take n bytes)) at_front ∙ ap (λ k. c + k) (length-take-le n bytes le) in
      let all : length (take c head ++ take n bytes) ≤ c + length bytes = omega arith in
      ap (λ (xs : List ℕ). take (c + length bytes) xs) same
      ∙ take_all (c + length bytes) (take c head ++ take n bytes) all
      ∙ sym (take-append-add (take c head) bytes n)
      ∙ ap (λ k. take k (take c head ++ bytes)) (ap (λ k. k + n) at_front ∙ is)

  -- either
  pub adds : (n : ℕ) (front rest : List ℕ) → c < size → n ≡ min (length bytes) (size - c) → front ≡ take n bytes → length rest ≡ size - (c + n) → take (c + length bytes) (take c head ++ (front ++ rest)) ≡ take size (take c head ++ bytes)
  adds n front rest lt is at left =
      ap (λ (xs : List ℕ). take (c + length bytes) (take c head ++ (xs ++ rest))) at
      ∙ ⊎_elim (λ (few : length bytes < size - c). let le : c + length bytes ≤ size = omega arith in let all : n ≡ length bytes = omega arith in goes_on n rest le all)
      (λ (many : size - c ≤ length bytes). let to_end : c + n ≡ size = omega arith in let le : n ≤ length bytes = omega arith in gets_whole n rest to_end le left)
      (cases_lt (length bytes) (size - c))
