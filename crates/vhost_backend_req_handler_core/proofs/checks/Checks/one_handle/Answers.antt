-- A list of one.
use Rattle.std.proofs.Common.{◌≡◌, List, [], ◌∷◌, length, refl, arith}
use Rattle.vhost_backend_req_handler_core.proofs.checks.Checks.one_handle.Goals as goal

single : {A : Type 0} (xs : List A) → length xs ≡ 1 → (h : A) × (xs ≡ h ∷ [])
single [] e = absurd (cc e)
single (x ∷ []) e = (x, refl)
single (x ∷ y ∷ ys) e = absurd (cc e)

pub returns-then-len-eq1-clause-one : goal.returns-then-len-eq1-clause-one
returns-then-len-eq1-clause-one g c =
    let p = single c.in-Some.list.items (omega (arith, c.len.ensures, c.if-len-eq1.true)) in
    (p.0, rw c.in-Some.is p.1)
