-- What came with a reply.
use Rattle.std.proofs.Common.{◌≡◌, ℕ, zero, suc, List, [], true, false, Option, Some, None, Vec, refl, arith}
use Rattle.std.specs.Prelude.{is_some, ◌==◌}
use Rattle.std.proofs.lemmas.Bool.Decides.{nat_tests}
use Rattle.std.specs.Global.{Global}
use Rattle.vhost_protocol.specs.Stream.{has_some}
use Rattle.vhost_connection.specs.Calls.{HandsOver}

-- none came
pub hands-none : {H : Type 0} (hs : Option (Vec H Global)) (handles : List H) → HandsOver hs handles → is_some hs ≡ false → handles ≡ []
hands-none None handles h e = h
hands-none (Some v) handles h e = absurd cc

-- some came
pub hands-some : {H : Type 0} (hs : Option (Vec H Global)) (handles : List H) → HandsOver hs handles → is_some hs ≡ true → has_some handles ≡ true
hands-some None handles h e = absurd cc
hands-some (Some v) handles h e = h.1

-- a number that is not 0
pub nonzero : (n : ℕ) → (n ≡ 0 → ⊥) → (n == 0) ≡ false
nonzero zero h = absurd (h refl)
nonzero (suc n) h = grind (arith, nat_tests)
