-- Calls one after another, as their caller derives them.
use Rattle.std.specs.Prelude.{ℕ, ◌+◌, ◌<◌, Result, Ok, Err}

module _ {S A E : Type 0} (call : S → Result A E → S → Type 0) (old : S) where
  -- So many calls that each succeeded lead here.
  pub data Succeeds : ℕ → S → Type 0 where
    none : Succeeds 0 old
    more : {n : ℕ} {middle new : S} {a : A} → Succeeds n middle → call middle (Ok a) new → Succeeds (n + 1) new

  -- So many calls were made and each succeeded; or fewer did, and the next failed with the error that is the answer.
  pub data Repeats {U : Type 0} (count : ℕ) : Result U E → S → Type 0 where
    all : {u : U} {new : S} → Succeeds count new → Repeats count (Ok u) new
    failed : {n : ℕ} {middle new : S} {e : E} → n < count → Succeeds n middle → call middle (Err e) new → Repeats count (Err e) new
