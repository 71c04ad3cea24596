-- Laws of arguments.
use Rattle.std.proofs.Common.{◌≡◌, ℕ, ◌↔◌, true, false, Bool, Option, Some, None, IsSome, IfSome, option_map, bit_and, ◌==◌, refl}
use Rattle.std.proofs.lemmas.Bool.{eq-eqb, eqb-true, false≢true}
use Rattle.vhost_lines.specs.Arguments.{within}

-- flags that are known
pub within-known : {F : Type 0} (bits : F → ℕ) (r : Option F) (n mask : ℕ) → IfSome r (λ f. bits f ≡ n) → IsSome r ↔ (bit_and n mask ≡ n) → option_map bits r ≡ within mask n
within-known bits (Some f) n mask value known = rw value (rw (eq-eqb (bit_and n mask) n (known.0 refl)) refl)
within-known bits None n mask value known = from (bit_and n mask == n) refl where
  from : (b : Bool) → (bit_and n mask == n) ≡ b → None ≡ within mask n
  from false is = rw is refl
  from true is = absurd (false≢true (known.1 (eqb-true (bit_and n mask) n is)))
