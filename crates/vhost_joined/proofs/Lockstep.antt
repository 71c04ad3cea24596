-- Frontend and handler stay in lockstep.
use Rattle.std.proofs.Common.{◌≡◌, ℕ, ◌⊎◌, inl, inr, Bool, true, false, cond, List, [], ◌∷◌, Some, None, Result, Ok, Err, refl, sym, ◌∙◌, ap, subst}
use Rattle.std.specs.Prelude.{⊤}
use Rattle.vhost_protocol.specs.Error.{Error}
use Rattle.vhost_message.specs.Bits.{has_bit}
use Rattle.vhost_protocol.specs.Features.{PROTOCOL_FEATURES}
use Rattle.vhost_protocol.specs.FrontendCall.{FrontendCall, GetFeatures, Number, Value}
use Rattle.vhost_link.specs.declared.plain.PlainHandle.{PlainHandle}
use Rattle.vhost_frontend_core.specs.Values.{call_of, answer_of}
use Rattle.vhost_frontend_core.specs.declared.values.call.FrontendCall as code
use Rattle.vhost_frontend_core.specs.declared.values.answer.FrontendAnswer.{FrontendAnswer}
use Rattle.vhost_joined.specs.declared.halt.Halt.{Halt}
use Rattle.vhost_joined.specs.declared.halt.Halt.TheVariants as halt
use Rattle.vhost_joined.specs.declared.halt.Stop.{Stop}
use Rattle.vhost_joined.specs.declared.halt.Stop.TheVariants.{Table}
use Rattle.vhost_protocol.specs.Joined.{JoinedRun, Shown}
use Rattle.vhost_protocol.specs.Profile.{is_standard}
use Rattle.vhost_joined.specs.Device.{Gives, opens_backend, opens_gpu}
use Rattle.vhost_joined.specs.Joined.{View, IsReady, Offers, Moves, Steps, StepsBy, StepsAll, Keeps, Answers}
use Rattle.vhost_joined.specs.Lockstep.{entries, IsPlain, ArePlain, IsOffered, AreOffered, InLockstep, Lockstep, StayInLockstep}
use Rattle.vhost_joined.specs.Sides.{as_view, fresh_parts}
use Rattle.vhost_link.specs.declared.cut.Cut.{Cut}
use Rattle.vhost_joined.proofs.Ending.{profile-stays, moved-to-end}
use Rattle.vhost_joined.proofs.Ready.{Reveals, stays-by}
use Rattle.vhost_joined.proofs.Steps.{Answered, goes_on, ends, breaks, lockstep}

-- what is answered shows the bit
shown-bit : (bit : Bool) (call : FrontendCall PlainHandle) (result : Result (Value PlainHandle) Error) (shown : Shown PlainHandle) → result ≡ shown.result → IsOffered bit call result
    → (n : ℕ) → call ≡ GetFeatures → shown.result ≡ Ok (Number n) → has_bit n PROTOCOL_FEATURES ≡ bit
shown-bit bit call result shown same offered n is answered =
    subst (λ (r : Result (Value PlainHandle) Error). IsOffered bit GetFeatures r) (same ∙ answered) (subst (λ (c : FrontendCall PlainHandle). IsOffered bit c result) is offered)

-- ---- steps

module _ {Dev : Type 0} (gives : Gives Dev) where
  -- the same, whatever became of the lists of handles
  abbrev IsSameBut : View Dev → View Dev → Type 0
  IsSameBut old new = new ≡ record old { lists = new.lists }

  same-but-lists : (old new : View Dev) → new ≡ old → IsSameBut old new
  same-but-lists old new same = ap {A = View Dev} {B = View Dev} (λ v. record v { lists = new.lists }) same

  -- a step that was not done
  halted-same : (old new : View Dev) (c : code.FrontendCall) (h : Halt) → Steps gives old (call_of c) (Err h) new → IsSameBut old new
  halted-same old new c halt.Stopped s = same-but-lists old new s.1
  halted-same old new c halt.OutOfMemory s = s.1

  -- a run that has stopped answers no more
  still : (old new : View Dev) (c : code.FrontendCall) (r : Result FrontendAnswer Halt) (stop : Stop) → old.stopped ≡ Some stop → StepsBy gives old c r new → (new ≡ old) × ((a : FrontendAnswer) → r ≡ Ok a → ⊥)
  still old new c (Ok a) stop e s = absurd (cc (sym e ∙ s.0))
  still old new c (Err halt.Stopped) stop e s = (s.1, λ a is. cc is)
  still old new c (Err halt.OutOfMemory) stop e s = absurd (cc (sym e ∙ s.0))

  module _ (bit : Bool) where
    -- no call was answered
    unstepped : (old new : View Dev) (calls : List code.FrontendCall) → IsReady bit old → IsSameBut old new → InLockstep gives bit old calls [] new
    unstepped old new calls ready same = record {
      run = none calls;
      each = same;
      in_step = λ on. subst (λ v. IsReady bit v) (sym same) (record { in_step = ready.in_step; plain = ready.plain; negotiates = ready.negotiates });
      no_request = ap (λ v. v.to_handler) same ∙ ready.in_step.no_request;
      no_reply = ap (λ v. v.to_frontend) same ∙ ready.in_step.no_reply;
      ends = λ going standard at_end. absurd (cc (sym (ap (λ v. v.stopped) same ∙ going) ∙ at_end));
    }
      where
        none : (cs : List code.FrontendCall) → JoinedRun gives opens_backend opens_gpu old.frontend old.session old.device (entries cs []) new.frontend new.session new.device
        none [] = (ap (λ v. v.frontend) same, ap (λ v. v.session) same, ap (λ v. v.device) same)
        none (c ∷ cs) = (ap (λ v. v.frontend) same, ap (λ v. v.session) same, ap (λ v. v.device) same)

    none-answered : (old new : View Dev) (calls : List code.FrontendCall) → IsReady bit old → old.stopped ≡ None → IsSameBut old new → InLockstep gives bit old calls [] new × (new.stopped ≡ None)
    none-answered old new calls ready going same = (unstepped old new calls ready same, ap (λ v. v.stopped) same ∙ going)

    unanswered : (old new : View Dev) (calls : List code.FrontendCall) (end : Result ⊤ Halt) → IsReady bit old → old.stopped ≡ None → StepsAll gives old calls [] end new → InLockstep gives bit old calls [] new × (new.stopped ≡ None)
    unanswered old new [] (Ok u) ready going s = none-answered old new [] ready going (same-but-lists old new s)
    unanswered old new [] (Err h) ready going s = absurd s
    unanswered old new (c ∷ cs) (Ok u) ready going s = absurd s
    unanswered old new (c ∷ cs) (Err h) ready going s = none-answered old new (c ∷ cs) ready going (halted-same old new c h s)

    -- both sides are ready for the next call
    pub next-ready : (call : FrontendCall PlainHandle) (old mid : View Dev) (result : Result (Value PlainHandle) Error) → IsOffered bit call result ⊎ Offers gives bit → IsPlain call → IsReady bit old → (k : Keeps gives old call result mid)
        → k.shown.last ≡ false → IsReady bit mid
    next-ready call old mid result offered plain ready k on =
        let still = stays-by gives bit old.frontend old.session old.device call (k.shown) mid.frontend mid.session mid.device (reveals offered) plain (ready.plain, ready.negotiates) k.step in
        record { in_step = k.in_step on; plain = still.0; negotiates = still.1 }
      where
        reveals : IsOffered bit call result ⊎ Offers gives bit → Reveals gives bit old.device call k.shown mid.device
        reveals (inl offers) = inl (shown-bit bit call result (k.shown) k.answered offers)
        reveals (inr offers) = inr (offers old.device mid.device)

    module _ (old mid : View Dev) (c : code.FrontendCall) (a : FrontendAnswer) (moves : Moves gives old (call_of c) (answer_of a) mid) (k : Keeps gives old (call_of c) (answer_of a) mid) where
      -- a call that kept the protocol, and those behind it
      in-step-more : k.shown.last ≡ false → mid.stopped ≡ None → IsReady bit mid → (cs : List code.FrontendCall) (as' : List FrontendAnswer) (new : View Dev) → InLockstep gives bit mid cs as' new → InLockstep gives bit old (c ∷ cs) (a ∷ as') new
      in-step-more on goes ready cs as' new rest = record {
        run = (k.shown, mid.frontend, mid.session, mid.device, k.step, sym k.answered, λ t. absurd (cc (sym on ∙ t)), rest.run);
        each = (mid, k, λ _. ready, λ t. absurd (cc (sym on ∙ t)), rest.each);
        in_step = rest.in_step;
        no_request = rest.no_request;
        no_reply = rest.no_reply;
        ends = λ going standard at_end. rest.ends goes (ap (λ p. is_standard p) (profile-stays gives old mid (call_of c) (answer_of a) moves) ∙ standard) at_end;
      }

      -- the last step
      in-step-last : k.shown.last ≡ true → mid.stopped ≡ Some Table → (cs : List code.FrontendCall) → InLockstep gives bit old (c ∷ cs) (a ∷ []) mid
      in-step-last at_end stopped cs = record {
        run = (k.shown, mid.frontend, mid.session, mid.device, k.step, sym k.answered, λ t. no-entries cs, no-run cs);
        each = (mid, k, (λ on. absurd (cc (sym at_end ∙ on))), (λ t. refl), refl);
        in_step = λ on. absurd (cc (sym stopped ∙ on));
        no_request = k.no_request;
        no_reply = k.no_reply;
        ends = moved-to-end gives old mid (call_of c) (answer_of a) moves;
      }
        where
          no-entries : (xs : List code.FrontendCall) → entries xs [] ≡ []
          no-entries [] = refl
          no-entries (x ∷ xs) = refl

          no-run : (xs : List code.FrontendCall) → JoinedRun gives opens_backend opens_gpu mid.frontend mid.session mid.device (entries xs []) mid.frontend mid.session mid.device
          no-run [] = (refl, refl, refl)
          no-run (x ∷ xs) = (refl, refl, refl)

    -- what a call is to those behind it
    abbrev After : View Dev → code.FrontendCall → FrontendAnswer → View Dev → Type 0
    After = Answered (StepsBy gives) (InLockstep gives bit) (λ old c a new. Moves gives old (call_of c) (answer_of a) new) (λ v. v.stopped) (IsReady bit)

    stepped : (old mid : View Dev) (c : code.FrontendCall) (a : FrontendAnswer) → IsOffered bit (call_of c) (answer_of a) ⊎ Offers gives bit → IsPlain (call_of c) → IsReady bit old
        → Moves gives old (call_of c) (answer_of a) mid → Answers gives old (call_of c) (answer_of a) mid → After old c a mid
    stepped old mid c a offered plain ready moves (inl k) = by-last (k.shown.last) refl
      where
        stops : (last : Bool) → k.shown.last ≡ last → mid.stopped ≡ cond last (Some Table) None
        stops last e = k.stopped ∙ ap (λ b. cond b (Some Table) None) e

        by-last : (last : Bool) → k.shown.last ≡ last → After old c a mid
        by-last false e = let next = next-ready (call_of c) old mid (answer_of a) offered plain ready k e in goes_on (stops false e) next (in-step-more old mid c a moves k e (stops false e) next)
        by-last true e = ends (stops true e) (in-step-last old mid c a moves k e (stops true e))
    stepped old mid c a offered plain ready moves (inr premise) = breaks premise moves

    -- the calls are plain, and what was answered, or the device, offers the bit
    abbrev Fit : List code.FrontendCall → List FrontendAnswer → Type 0
    Fit calls answers = (AreOffered bit calls answers ⊎ Offers gives bit) × ArePlain calls

    answered : (old mid : View Dev) (c : code.FrontendCall) (cs : List code.FrontendCall) (a : FrontendAnswer) (as' : List FrontendAnswer) → Fit (c ∷ cs) (a ∷ as') → IsReady bit old → old.stopped ≡ None → StepsBy gives old c (Ok a) mid
        → After old c a mid × Fit cs as'
    answered old mid c cs a as' (inl all, plain) ready going s = (stepped old mid c a (inl all.0) plain.0 ready s.1 (s.2 bit ready), (inl all.1, plain.1))
    answered old mid c cs a as' (inr all, plain) ready going s = (stepped old mid c a (inr all) plain.0 ready s.1 (s.2 bit ready), (inr all, plain.1))

    pub in-lockstep : (old new : View Dev) (calls : List code.FrontendCall) (answers : List FrontendAnswer) (end : Result ⊤ Halt)
        → AreOffered bit calls answers ⊎ Offers gives bit → IsReady bit old → old.stopped ≡ None → ArePlain calls → StepsAll gives old calls answers end new → Lockstep gives bit old calls answers new
    in-lockstep old new calls answers end offers ready going plain s = lockstep (StepsBy gives) (InLockstep gives bit) (λ old c a new. Moves gives old (call_of c) (answer_of a) new) (λ v. v.stopped) (IsReady bit) Fit still unanswered answered
        old new calls answers end (offers, plain) ready going s

  pub stay : (old new : View Dev) (calls : List code.FrontendCall) (answers : List FrontendAnswer) (end : Result ⊤ Halt) → StepsAll gives old calls answers end new → StayInLockstep gives old calls answers new
  stay old new calls answers end s = λ bit offers ready going plain. in-lockstep bit old new calls answers end offers ready going plain s

  pub stay-none : (old : View Dev) (calls : List code.FrontendCall) → StayInLockstep gives old calls [] old
  stay-none old calls = λ bit offers ready going plain. let none = none-answered bit old old calls ready going refl in inl (none.0, λ premise. cc (sym none.1 ∙ premise))

-- a run that begins is ready
pub begins : {Dev : Type 0} (device : Dev) (queues budget : ℕ) (asking serving : List Cut) (bit : Bool) → IsReady bit (as_view (fresh_parts device queues budget asking serving) None)
begins device queues budget asking serving bit = record {
  in_step = record { agree = record { offered = refl; acked_protocol_features = refl; postcopy = refl; acked = refl; profile = refl }; nobody = refl; no_request = refl; no_reply = refl };
  plain = refl;
  negotiates = (λ on. absurd (cc on), λ on. absurd (cc on), λ on. absurd (cc on));
}
