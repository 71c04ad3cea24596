-- Runs of calls, one call after another, whatever a step is.
use Rattle.std.proofs.Common.{◌≡◌, ℕ, ◌+◌, suc, get_or, ◌<◌, List, [], ◌∷◌, ◌++◌, length, take, drop, Option, Some, None, Result, Ok, Err, refl, sym, ◌∙◌, ap, subst, arith, inl, inr, append_assoc, true, false}
use Rattle.std.proofs.lemmas.List.{append-nil, take-append-drop}
use Rattle.std.proofs.Math.Seq.{take-suc, drop-cons}
use Rattle.std.specs.Prelude.{⊤, is_some, is_err, OnOk, OnErr, IfOk, IsErrAnd}
use Rattle.std.proofs.lemmas.Result.{err_from_is_err_and}
use Rattle.vhost_joined.specs.declared.halt.Halt.{Halt}
use Rattle.vhost_joined.specs.declared.halt.Halt.TheVariants as halt
use Rattle.vhost_joined.specs.Runs.{StepsAll, Runs}

module _ {Run Call Answer : Type 0} (Steps : Run → Call → Result Answer Halt → Run → Type 0) where
  -- each call was answered
  pub data Did (old : Run) : List Call → List Answer → Run → Type 0 where
    none : Did old [] [] old
    next : {cs : List Call} {as' : List Answer} {mid new : Run} (c : Call) (a : Answer) → Did old cs as' mid → Steps mid c (Ok a) new → Did old (cs ++ c ∷ []) (as' ++ a ∷ []) new

  -- what follows answered calls
  did-then : (old mid new : Run) (cs more : List Call) (as' bs : List Answer) (end : Result ⊤ Halt) → Did old cs as' mid → StepsAll Steps mid more bs end new → StepsAll Steps old (cs ++ more) (as' ++ bs) end new
  did-then old mid new _ more _ bs end none s = s
  did-then old mid new _ more _ bs end (next {cs = cs} {as' = as'} {mid = m} c a did step) s =
      subst (λ xs. StepsAll Steps old xs ((as' ++ a ∷ []) ++ bs) end new) (sym (append_assoc cs (c ∷ []) more))
      (subst (λ ys. StepsAll Steps old (cs ++ c ∷ more) ys end new) (sym (append_assoc as' (a ∷ []) bs))
      (did-then old m new cs (c ∷ more) as' (a ∷ bs) end did (mid, step, s)))

  -- Calls that were answered, and their answers behind others.
  pub record Ran (old : Run) (calls : List Call) (before after : List Answer) (new : Run) : Type 0 where
    pub answers : List Answer
    pub grown : after ≡ before ++ answers
    pub did : Did old calls answers new

  pub ran-none : (old : Run) (before : List Answer) → Ran old [] before before old
  ran-none old before = record { answers = []; grown = sym (append-nil before); did = none }

  ran-next : (old mid new : Run) (calls : List Call) (before after : List Answer) (c : Call) (a : Answer) → Ran old calls before after mid → Steps mid c (Ok a) new → Ran old (calls ++ c ∷ []) before (after ++ a ∷ []) new
  ran-next old mid new calls before after c a r step = record {
    answers = r.answers ++ a ∷ [];
    grown = ap (λ xs. xs ++ a ∷ []) r.grown ∙ append_assoc before r.answers (a ∷ []);
    did = next c a r.did step;
  }

  -- the call at an index was answered behind those before it
  pub ran-one : (calls : List Call) (i : ℕ) (d : Call) → i < length calls → (old mid new : Run) (before after : List Answer) (a : Answer)
      → Ran old (take i calls) before after mid → Steps mid (get_or calls i d) (Ok a) new → Ran old (take (i + 1) calls) before (after ++ a ∷ []) new
  ran-one calls i d within old mid new before after a r step =
      let e : suc i ≡ i + 1 = omega arith in
      subst (λ cs. Ran old cs before (after ++ a ∷ []) new) (sym (take-suc calls i d within) ∙ ap (λ n. take n calls) e) (ran-next old mid new (take i calls) before after (get_or calls i d) a r step)

  -- what steps are worth
  module _ (Worth : Run → List Call → List Answer → Run → Type 0) (worth : (old new : Run) (calls : List Call) (answers : List Answer) (end : Result ⊤ Halt) → StepsAll Steps old calls answers end new → Worth old calls answers new) where
    runs : (old new : Run) (calls more : List Call) (before after : List Answer) (end : Result ⊤ Halt) (mid : Run) (r : Ran old calls before after mid) → StepsAll Steps mid more [] end new → Runs Steps Worth old (calls ++ more) before end after new
    runs old new calls more before after end mid r rest =
        let steps : StepsAll Steps old (calls ++ more) r.answers end new =
        subst (λ ys. StepsAll Steps old (calls ++ more) ys end new) (append-nil r.answers) (did-then old mid new calls more r.answers [] end r.did rest) in
        record { answers = r.answers; appended = r.grown; steps = inl steps; lockstep = worth old new (calls ++ more) r.answers end steps }

    pub ran-all : (old new : Run) (calls : List Call) (before after : List Answer) → Ran old calls before after new → Runs Steps Worth old calls before (Ok tt) after new
    ran-all old new calls before after r = subst (λ xs. Runs Steps Worth old xs before (Ok tt) after new) (append-nil calls) (runs old new calls [] before after (Ok tt) new r refl)

    -- a `?` ends them with its error
    pub ran-to : (calls : List Call) (i : ℕ) (d : Call) → i < length calls → (old mid new : Run) (before after : List Answer) (result : Result ⊤ Halt) (h : Halt) → IsErrAnd result (λ y. y ≡ h)
        → Ran old (take i calls) before after mid → Steps mid (get_or calls i d) (Err h) new → Runs Steps Worth old calls before result after new
    ran-to calls i d within old mid new before after result h exit r step =
        let q = err_from_is_err_and result exit in
        let whole : take i calls ++ get_or calls i d ∷ drop (suc i) calls ≡ calls = ap (λ xs. take i calls ++ xs) (sym (drop-cons calls i d within)) ∙ take-append-drop i calls in
        rw (q.1, q.2) (subst (λ cs. Runs Steps Worth old cs before (Err h) after new) whole (runs old new (take i calls) (get_or calls i d ∷ drop (suc i) calls) before after (Err h) mid r step))

  -- there was no room for the answers
  pub runs-none : (Worth : Run → List Call → List Answer → Run → Type 0) (old : Run) (calls : List Call) (before : List Answer) → Worth old calls [] old → Runs Steps Worth old calls before (Err halt.OutOfMemory) before old
  runs-none Worth old calls before worth = record { answers = []; appended = sym (append-nil before); steps = inr (refl, refl, refl); lockstep = worth }

pub not-stopped : {A : Type 0} (o : Option A) → is_some o ≡ false → o ≡ None
not-stopped None e = refl
not-stopped (Some a) e = absurd (cc e)

-- what holds of a success, where there is no error
pub held : {A E : Type 0} (r : Result A E) (P : Type 0) → is_err r ≡ false → IfOk r (λ a. P) → P
held (Ok a) P e p = p
held (Err x) P e p = absurd (cc e)

pub found : {A E : Type 0} (r : Result A E) (P : Type 0) → is_err r ≡ false → OnOk r P → P
found (Ok a) P e p = p
found (Err x) P e p = absurd (cc e)

-- what holds of a failure, where there is one
pub refusal : {A E : Type 0} (r : Result A E) (P : Type 0) → is_err r ≡ true → OnErr r P → P
refusal (Ok a) P e p = absurd (cc e)
refusal (Err x) P e p = p
