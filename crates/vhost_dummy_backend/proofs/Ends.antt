-- How a call ends, test by test.
use Rattle.std.proofs.Common.{◌≡◌, Bool, true, false, Option, Some, Result, Ok, Err, refl, ap}
use Rattle.std.specs.Prelude.{⊤, if◌then◌else◌, IsErrAnd}
use Rattle.std.proofs.lemmas.Result.{err_from_is_err_and}
use Rattle.vhost_message.specs.declared.error.Error as declared
use Rattle.vhost_protocol.specs.Error.{Error, seen, seen_result}
use Rattle.vhost_dummy_backend.specs.Dummy.{Does}

module _ {A D : Type 0} (old next : D) (value : A) where
  -- the first test fails
  pub refuses : (holds : Bool) (e : Error) (later : Option Error) → holds ≡ false → Does old (if holds then later else Some e) value next (Err e) old
  refuses holds e later is = rw is (refl, refl)

  -- the same by a `?`
  pub fails : (holds : Bool) (e : Error) (later : Option Error) (why : declared.Error) (result : Result A declared.Error) → holds ≡ false → seen why ≡ e → IsErrAnd result (λ y. y ≡ why)
      → Does old (if holds then later else Some e) value next (seen_result result) old
  fails holds e later why result is same exit = let q = err_from_is_err_and result exit in rw (is, q.1) (rw q.2 (ap Err same), refl)

  -- the first test holds
  pub passes : (holds : Bool) (e : Error) (later : Option Error) (answer : Result A Error) (new : D) → holds ≡ true → Does old later value next answer new
      → Does old (if holds then later else Some e) value next answer new
  passes holds e later answer new is p = rw is p

-- a test in its own function failed, or held
pub failed : (holds : Bool) (e : Error) (why : declared.Error) → seen_result {A = ⊤} (Err why) ≡ (if holds then Ok tt else Err e) → (holds ≡ false) × (seen why ≡ e)
failed true e why is = absurd (cc is)
failed false e why is = (refl, cc is)

pub held : (holds : Bool) (e : Error) → seen_result {A = ⊤} (Ok tt) ≡ (if holds then Ok tt else Err e) → holds ≡ true
held true e is = refl
held false e is = absurd (cc is)
