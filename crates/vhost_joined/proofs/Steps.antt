-- Both sides stay in lockstep, whatever a step is.
use Rattle.std.proofs.Common.{◌≡◌, inl, inr, List, [], ◌∷◌, Option, Some, None, Result, Ok, Err, refl, sym, ◌∙◌, ap, subst}
use Rattle.std.specs.Prelude.{⊤}
use Rattle.vhost_joined.specs.declared.halt.Halt.{Halt}
use Rattle.vhost_joined.specs.declared.halt.Stop.{Stop}
use Rattle.vhost_joined.specs.declared.halt.Stop.TheVariants.{Table, Premise}
use Rattle.vhost_joined.specs.Runs.{StepsAll, Lockstep}

module _ {Run Call Answer : Type 0} (Steps : Run → Call → Result Answer Halt → Run → Type 0) (InLockstep : Run → List Call → List Answer → Run → Type 0) (Moves : Run → Call → Answer → Run → Type 0) (stop : Run → Option Stop) (IsReady : Run → Type 0) where
  -- What an answered call is to those behind it.
  pub data Answered (old : Run) (c : Call) (a : Answer) (mid : Run) : Type 0 where
    goes_on : stop mid ≡ None → IsReady mid → ((cs : List Call) (as' : List Answer) (new : Run) → InLockstep mid cs as' new → InLockstep old (c ∷ cs) (a ∷ as') new) → Answered old c a mid
    ends : stop mid ≡ Some Table → ((cs : List Call) → InLockstep old (c ∷ cs) (a ∷ []) mid) → Answered old c a mid
    breaks : stop mid ≡ Some Premise → Moves old c a mid → Answered old c a mid

  -- A run that has stopped does no step. Where no call was answered, nothing changed that matters. And an answered call fits with those behind it.
  module _ (Fits : List Call → List Answer → Type 0)
      (still : (old new : Run) (c : Call) (r : Result Answer Halt) (s : Stop) → stop old ≡ Some s → Steps old c r new → (new ≡ old) × ((a : Answer) → r ≡ Ok a → ⊥))
      (unanswered : (old new : Run) (calls : List Call) (end : Result ⊤ Halt) → IsReady old → stop old ≡ None → StepsAll Steps old calls [] end new → InLockstep old calls [] new × (stop new ≡ None))
      (answered : (old mid : Run) (c : Call) (cs : List Call) (a : Answer) (as' : List Answer) → Fits (c ∷ cs) (a ∷ as') → IsReady old → stop old ≡ None → Steps old c (Ok a) mid → Answered old c a mid × Fits cs as') where
    stopped-same : (old new : Run) (calls : List Call) (answers : List Answer) (end : Result ⊤ Halt) (s : Stop) → stop old ≡ Some s → StepsAll Steps old calls answers end new → (new ≡ old) × (answers ≡ [])
    stopped-same old new [] [] (Ok u) s e steps = (steps, refl)
    stopped-same old new [] [] (Err h) s e steps = absurd steps
    stopped-same old new [] (a ∷ as') end s e steps = absurd steps
    stopped-same old new (c ∷ cs) [] (Ok u) s e steps = absurd steps
    stopped-same old new (c ∷ cs) [] (Err h) s e steps = ((still old new c (Err h) s e steps).0, refl)
    stopped-same old new (c ∷ cs) (a ∷ as') end s e steps = absurd ((still old steps.0 c (Ok a) s e steps.1).1 a refl)

    stepped : (old mid new : Run) (c : Call) (cs : List Call) (a : Answer) (as' : List Answer) (end : Result ⊤ Halt) → IsReady old → stop old ≡ None → StepsAll Steps mid cs as' end new → Answered old c a mid
        → (IsReady mid → stop mid ≡ None → Lockstep InLockstep Moves stop mid cs as' new) → Lockstep InLockstep Moves stop old (c ∷ cs) (a ∷ as') new
    stepped old mid new c cs a as' end ready going steps (goes_on on next more) behind = by (behind next on)
      where
        by : Lockstep InLockstep Moves stop mid cs as' new → Lockstep InLockstep Moves stop old (c ∷ cs) (a ∷ as') new
        by (inl (rest, whole)) = inl (more cs as' new rest, whole)
        by (inr b) = inr (record {
          before = c ∷ b.before;
          call = b.call;
          later = b.later;
          asked = ap (λ xs. c ∷ xs) b.asked;
          kept = a ∷ b.kept;
          answer = b.answer;
          answered = ap (λ xs. a ∷ xs) b.answered;
          mid = b.mid;
          lockstep = more b.before b.kept b.mid b.lockstep;
          going = b.going;
          stopped = b.stopped;
          moves = b.moves;
        })
    stepped old mid new c cs a as' end ready going steps (ends at_end last) behind =
        let ended = stopped-same mid new cs as' end Table at_end steps in
        inl (
          subst (λ xs. InLockstep old (c ∷ cs) (a ∷ xs) new) (sym ended.1) (subst (λ v. InLockstep old (c ∷ cs) (a ∷ []) v) (sym ended.0) (last cs)),
          λ premise. cc (sym (ap stop ended.0 ∙ at_end) ∙ premise),
        )
    stepped old mid new c cs a as' end ready going steps (breaks premise moves) behind =
        let ended = stopped-same mid new cs as' end Premise premise steps in
        inr (record {
          before = [];
          call = c;
          later = cs;
          asked = refl;
          kept = [];
          answer = a;
          answered = ap (λ xs. a ∷ xs) ended.1;
          mid = old;
          lockstep = (unanswered old old [] (Ok tt) ready going refl).0;
          going = going;
          stopped = ap stop ended.0 ∙ premise;
          moves = subst (λ v. Moves old c a v) (sym ended.0) moves;
        })

    pub lockstep : (old new : Run) (calls : List Call) (answers : List Answer) (end : Result ⊤ Halt) → Fits calls answers → IsReady old → stop old ≡ None → StepsAll Steps old calls answers end new → Lockstep InLockstep Moves stop old calls answers new
    lockstep old new calls [] end fits ready going steps = let none = unanswered old new calls end ready going steps in inl (none.0, λ premise. cc (sym none.1 ∙ premise))
    lockstep old new [] (a ∷ as') end fits ready going steps = absurd steps
    lockstep old new (c ∷ cs) (a ∷ as') end fits ready going steps =
        let k = answered old steps.0 c cs a as' fits ready going steps.1 in
        stepped old steps.0 new c cs a as' end ready going steps.2 k.0 (λ next on. lockstep steps.0 new cs as' end k.1 next on steps.2)
