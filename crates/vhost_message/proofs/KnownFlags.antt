-- Sets of the low flags.
use Rattle.std.proofs.Common.{◌≡◌, ℕ, ◌-◌, ◌%◌, ◌^◌, ◌<◌, ◌≤◌, ◌↔◌, Option, IsSome, is_some, nat_le, bit_and, arith, ap, ◌∙◌}
use Rattle.std.proofs.lemmas.Nat.{and_mask, pow_pos}
use Rattle.std.proofs.lemmas.Bool.Decides.{nat_tests}
use Rattle.std.proofs.Math.Nat.{mod-eq_of_lt, mod-lt}
use Rattle.std.specs.Cmp.{both_ways}

-- a number has no bit but the k low ones exactly where it is below 2 ^ k
pub known_below : {A : Type 0} (o : Option A) (n m : ℕ) → IsSome o ↔ (bit_and n m ≡ n) → (k : ℕ) → m ≡ 2 ^ k - 1 → is_some o ≡ nat_le n m
known_below o n m known k mask =
    let low : bit_and n m ≡ n % 2 ^ k = ap (bit_and n) mask ∙ and_mask n k in
    let positive = pow_pos k in
    let small : n % 2 ^ k < 2 ^ k = mod-lt n positive in
    both_ways (is_some o) (nat_le n m)
    (λ some. let same : bit_and n m ≡ n = known.0 some in let le : n ≤ m = omega arith in grind (arith, nat_tests))
    (λ le. let below : n < 2 ^ k = grind (arith, nat_tests) in known.1 (low ∙ mod-eq_of_lt below))
