-- Both sides stay in lockstep.
use Rattle.std.proofs.Common.{◌≡◌, ℕ, inl, inr, Bool, true, false, cond, List, [], ◌∷◌, Some, None, Result, Ok, Err, refl, sym, ◌∙◌, ap, subst}
use Rattle.std.specs.Prelude.{⊤}
use Rattle.vhost_message.specs.declared.io_error.IoError as io
use Rattle.vhost_protocol.specs.IoError.{seen_io_result}
use Rattle.vhost_protocol.specs.JoinedReverse.{ReverseJoinedRun}
use Rattle.vhost_link.specs.declared.plain.PlainHandle.{PlainHandle}
use Rattle.vhost_backend_req.specs.Halves.{input_of}
use Rattle.vhost_backend_req.specs.declared.call.ReverseCall.{ReverseCall}
use Rattle.vhost_joined.specs.declared.halt.Halt.{Halt}
use Rattle.vhost_joined.specs.declared.halt.Halt.TheVariants as halt
use Rattle.vhost_joined.specs.declared.halt.Stop.{Stop}
use Rattle.vhost_joined.specs.declared.halt.Stop.TheVariants.{Table}
use Rattle.vhost_joined.proofs.Steps.{Answered, goes_on, ends, breaks, lockstep}
use Rattle.vhost_joined_reverse.specs.Joined.{Gives, View, IsReady, Steps, StepsBy, StepsAll, Keeps, Breaks, Answers}
use Rattle.vhost_joined_reverse.specs.Lockstep.{entries, InLockstep, StayInLockstep}

abbrev pub Call : Type 0
Call = ReverseCall PlainHandle

abbrev pub Answer : Type 0
Answer = Result ℕ io.IoError

module _ {Dev : Type 0} (gives : Gives Dev) where
  -- a step that was not done
  halted-same : (old new : View Dev) (c : Call) (h : Halt) → Steps gives old (input_of c) (Err h) new → new ≡ old
  halted-same old new c halt.Stopped s = s.1
  halted-same old new c halt.OutOfMemory s = s.1

  -- a run that has stopped answers no more
  still : (old new : View Dev) (c : Call) (r : Result Answer Halt) (stop : Stop) → old.stopped ≡ Some stop → StepsBy gives old c r new → (new ≡ old) × ((a : Answer) → r ≡ Ok a → ⊥)
  still old new c (Ok a) stop e s = absurd (cc (sym e ∙ s.0))
  still old new c (Err h) stop e s = (halted-same old new c h s, λ a is. cc is)

  -- no call is left
  no-entries : (xs : List Call) → entries xs [] ≡ []
  no-entries [] = refl
  no-entries (x ∷ xs) = refl

  no-run : (v : View Dev) (calls : List Call) → ReverseJoinedRun gives v.backend v.server v.device (entries calls []) v.backend v.server v.device
  no-run v [] = (refl, refl, refl)
  no-run v (c ∷ cs) = (refl, refl, refl)

  -- no call was answered
  none-answered : (old new : View Dev) (calls : List Call) → IsReady old → old.stopped ≡ None → new ≡ old → InLockstep gives old calls [] new × (new.stopped ≡ None)
  none-answered old new calls ready going same =
      subst (λ v. InLockstep gives old calls [] v × (v.stopped ≡ None)) (sym same) (record { run = no-run old calls; each = refl; in_step = ready }, going)

  unanswered : (old new : View Dev) (calls : List Call) (end : Result ⊤ Halt) → IsReady old → old.stopped ≡ None → StepsAll gives old calls [] end new → InLockstep gives old calls [] new × (new.stopped ≡ None)
  unanswered old new [] (Ok u) ready going s = none-answered old new [] ready going s
  unanswered old new [] (Err h) ready going s = absurd s
  unanswered old new (c ∷ cs) (Ok u) ready going s = absurd s
  unanswered old new (c ∷ cs) (Err h) ready going s = none-answered old new (c ∷ cs) ready going (halted-same old new c h s)

  module _ (old mid : View Dev) (c : Call) (a : Answer) (k : Keeps gives old (input_of c) (seen_io_result a) mid) where
    -- the last step
    in-step-last : k.shown.last ≡ true → (cs : List Call) → InLockstep gives old (c ∷ cs) (a ∷ []) mid
    in-step-last at_end cs = record {
      run = (k.shown, mid.backend, mid.server, mid.device, k.step, sym k.answered, (λ t. no-entries cs), no-run mid cs);
      each = (mid, k, (λ t. refl), refl);
      in_step = k.in_step;
    }

    -- a call that kept the protocol, and those behind it
    in-step-more : k.shown.last ≡ false → (cs : List Call) (as' : List Answer) (new : View Dev) → InLockstep gives mid cs as' new → InLockstep gives old (c ∷ cs) (a ∷ as') new
    in-step-more on cs as' new rest = record {
      run = (k.shown, mid.backend, mid.server, mid.device, k.step, sym k.answered, (λ t. absurd (cc (sym on ∙ t))), rest.run);
      each = (mid, k, (λ t. absurd (cc (sym on ∙ t))), rest.each);
      in_step = rest.in_step;
    }

  -- what a call is to those behind it
  abbrev After : View Dev → Call → Answer → View Dev → Type 0
  After = Answered (StepsBy gives) (InLockstep gives) (λ old c a new. Breaks gives old (input_of c) (seen_io_result a) new) (λ v. v.stopped) IsReady

  stepped : (old mid : View Dev) (c : Call) (a : Answer) → Answers gives old (input_of c) (seen_io_result a) mid → After old c a mid
  stepped old mid c a (inl k) = by-last (k.shown.last) refl
    where
      stops : (last : Bool) → k.shown.last ≡ last → mid.stopped ≡ cond last (Some Table) None
      stops last e = k.stopped ∙ ap (λ b. cond b (Some Table) None) e

      by-last : (last : Bool) → k.shown.last ≡ last → After old c a mid
      by-last false e = goes_on (stops false e) k.in_step (in-step-more old mid c a k e)
      by-last true e = ends (stops true e) (in-step-last old mid c a k e)
  stepped old mid c a (inr (premise, moves)) = breaks premise moves

  pub stay : (old new : View Dev) (calls : List Call) (answers : List Answer) (end : Result ⊤ Halt) → StepsAll gives old calls answers end new → StayInLockstep gives old calls answers new
  stay old new calls answers end s = λ ready going. lockstep (StepsBy gives) (InLockstep gives) (λ old c a new. Breaks gives old (input_of c) (seen_io_result a) new) (λ v. v.stopped) IsReady (λ cs as'. ⊤) still unanswered
      (λ old mid c cs a as' fits ready going s. (stepped old mid c a s.1, tt)) old new calls answers end tt ready going s

  pub stay-none : (old : View Dev) (calls : List Call) → StayInLockstep gives old calls [] old
  stay-none old calls = λ ready going. let none = none-answered old old calls ready going refl in inl (none.0, λ premise. cc (sym none.1 ∙ premise))
