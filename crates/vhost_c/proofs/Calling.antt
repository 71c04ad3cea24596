-- What calls of a program have in common, whichever session they are of.
use Rattle.std.proofs.Common.{◌≡◌, ℕ, suc, Bool, true, List, [], ◌∷◌, ◌++◌, length, append_assoc, Option, Some, None, Result, Ok, Err, refl, sym, ap, subst, ◌∙◌}
use Rattle.std.specs.Prelude.{All, ⊤, ◌≢◌}
use Rattle.std.proofs.lemmas.List.{append-nil}
use Rattle.std.proofs.lemmas.List.Elements.{All-head, All-tail}
use Rattle.vhost_c_common.specs.ByNumber.{By}
use Rattle.vhost_c_common.specs.ByNumber as by
use Rattle.vhost_c_common.specs.Number.{number}
use Rattle.vhost_c_common.specs.declared.refusal.Refusal.{Refusal}
use Rattle.vhost_c.specs.Calls.{Runs, Appends, IsMade, over, goes_on, is_named}
use Rattle.vhost_c.specs.declared.places.ProgramAnswer.{ProgramAnswer}

-- ---- calls one after another

module _ {Call S : Type 0} (Does : Call → ProgramAnswer → Option S → Option S → Type 0) where
  -- one more call at the end
  then-one : {cs : List Call} {as' : List ProgramAnswer} {old mid new : Option S} (call : Call) (a : ProgramAnswer) → Runs Does cs as' old mid → Does call a mid new → Runs Does (cs ++ call ∷ []) (as' ++ a ∷ []) old new
  then-one call a over does = goes_on does over
  then-one call a (goes_on first rest) does = goes_on first (then-one call a rest does)

  -- the same behind answers that were there
  pub none-yet : (before after : List ProgramAnswer) (s : Option S) → after ≡ before → Appends Does [] before after s s
  none-yet before after s is = record { answers = []; appended = is ∙ sym (append-nil before); runs = over }

  pub one-more : {cs : List Call} {before after : List ProgramAnswer} {old mid new : Option S} (call : Call) (a : ProgramAnswer) → Appends Does cs before after old mid → Does call a mid new → Appends Does (cs ++ call ∷ []) before (after ++ a ∷ []) old new
  one-more {before = before} call a so-far does = record {
    answers = so-far.answers ++ a ∷ [];
    appended = ap (λ xs. xs ++ a ∷ []) so-far.appended ∙ append_assoc before so-far.answers (a ∷ []);
    runs = then-one call a so-far.runs does;
  }

  pub from-none : {cs : List Call} (before after : List ProgramAnswer) {old new : Option S} → before ≡ [] → Appends Does cs before after old new → Runs Does cs after old new
  from-none {cs = cs} before after {old = old} {new = new} bare a = subst (λ (xs : List ProgramAnswer). Runs Does cs xs old new) (sym (a.appended ∙ ap (λ xs. xs ++ a.answers) bare)) a.runs

  -- each call is answered
  pub as-many : {cs : List Call} {as' : List ProgramAnswer} {old new : Option S} → Runs Does cs as' old new → length as' ≡ length cs
  as-many over = refl
  as-many (goes_on first rest) = ap suc (as-many rest)

  -- calls that made nothing
  pub made-none : IsMade Does None
  made-none = record { calls = []; answers = []; runs = over }

  -- what is so of a session stays so, where it does after each of these answers
  pub lives : (harmless : ProgramAnswer → Type 0) (So : Option S → Type 0) → ((call : Call) (a : ProgramAnswer) (old new : Option S) → Does call a old new → harmless a → So old → So new)
      → {cs : List Call} {as' : List ProgramAnswer} {old new : Option S} → Runs Does cs as' old new → All harmless as' → So old → So new
  lives harmless So keeps over all was = was
  lives harmless So keeps (goes_on {call = c} {answer = a} {answers = as'} {old = old} {mid = mid} first rest) all was =
      lives harmless So keeps rest (All-tail harmless a as' all) (keeps c a old mid first (All-head harmless a as' all) was)

-- ---- what each call promises

-- What is so of none, and stays so, is so of each session that calls made; and each call promises what it does of such a session.
module _ {Call S : Type 0} (Does IsCalled : Call → ProgramAnswer → Option S → Option S → Type 0) (Good : Option S → Type 0) (none : Good None)
    (step : (call : Call) (a : ProgramAnswer) (old new : Option S) → Does call a old new → Good old → IsCalled call a old new × Good new) where
  pub called : {cs : List Call} {as' : List ProgramAnswer} {old new : Option S} → Runs Does cs as' old new → Good old → Runs IsCalled cs as' old new × Good new
  called over good = (over, good)
  called (goes_on {call = c} {answer = a} {old = old} {mid = mid} does rest) good =
      let one = step c a old mid does good in let all = called rest one.1 in (goes_on one.0 all.0, all.1)

  pub made-good : {s : Option S} → IsMade Does s → Good s
  made-good made = (called made.runs none).1

  pub appends-called : {cs : List Call} {before after : List ProgramAnswer} {old new : Option S} → Appends Does cs before after old new → IsMade Does old → Appends IsCalled cs before after old new
  appends-called a made = record { answers = a.answers; appended = a.appended; runs = (called a.runs (made-good made)).0 }

-- ---- what a call promises

-- What a call promises of a session that calls made, beside what it does, by its number.
pub record Promises {Call S : Type 0} (refusals : Call → List ℕ) (Leaves : Call → ℕ → Option S → Option S → Type 0) (is_harmless : ℕ → Bool) (IsSound Good : Option S → Type 0) (call : Call) (n : ℕ) (old new : Option S) : Type 0 where
  pub named : is_named (refusals call) n ≡ true
  pub leaves : n ≢ 0 → Leaves call n old new
  pub sound : is_harmless n ≡ true → IsSound old → IsSound new
  pub good : Good new

module _ {Call S : Type 0} {refusals : Call → List ℕ} {Leaves : Call → ℕ → Option S → Option S → Type 0} {is_harmless : ℕ → Bool} {IsSound Good : Option S → Type 0} where
  pub promised : (call : Call) (n m : ℕ) (old new : Option S) → n ≡ m → Promises refusals Leaves is_harmless IsSound Good call m old new → Promises refusals Leaves is_harmless IsSound Good call n old new
  promised call n m old new is p = subst (λ k. Promises refusals Leaves is_harmless IsSound Good call k old new) (sym is) p

  -- where nothing changed
  pub kept : (call : Call) (n : ℕ) {old new : Option S} → is_named (refusals call) n ≡ true → (new ≡ old → Leaves call n old new) → new ≡ old → Good old → Promises refusals Leaves is_harmless IsSound Good call n old new
  kept call n named leaves same good = record { named = named; leaves = λ refused. leaves same; sound = λ harmless was. subst IsSound (sym same) was; good = subst Good (sym same) good }

-- ---- calls on descriptors

-- What a call promises: it does where there is no session, where it is done, and where it is refused.
pub on-held : {S : Type 0} (Good : Option S → Type 0) (Promised : ℕ → Option S → Option S → Type 0) (does : S → Result ⊤ Refusal → S → Type 0) → Promised 101 None None → ((s t : S) (u : ⊤) → does s (Ok u) t → Good (Some s) → Promised 0 (Some s) (Some t))
    → ((s t : S) (r : Refusal) → does s (Err r) t → Good (Some s) → Promised (number r) (Some s) (Some t)) → {n : ℕ} {old new : Option S} → By does old n new → Good old → Promised n old new
on-held Good Promised does gone done refused by.none good = gone
on-held Good Promised does gone done refused (by.some {s = s} {s' = t} {outcome = Ok u} x) good = done s t u x good
on-held Good Promised does gone done refused (by.some {s = s} {s' = t} {outcome = Err r} x) good = refused s t r x good
