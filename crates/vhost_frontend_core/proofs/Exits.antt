-- What `?` hands on.
use Rattle.std.proofs.Common.{◌≡◌, Result, Ok, Err, IfOk, ap}
use Rattle.std.specs.Prelude.{IsErrAnd}

-- just this error
pub err_is : {A E : Type 0} (result : Result A E) (e : E) → IsErrAnd result (λ x. x ≡ e) → result ≡ Err e
err_is (Ok a) e none = absurd none
err_is (Err x) e same = ap (λ y. Err y) same

-- what holds of every success
pub if-ok : {A E P : Type 0} (r : Result A E) → P → IfOk r (λ a. P)
if-ok (Ok a) p = p
if-ok (Err e) p = tt
