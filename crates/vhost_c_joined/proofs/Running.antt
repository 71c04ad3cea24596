-- Joined calls one after another are a joined run of the protocol.
use Rattle.std.proofs.Common.{◌≡◌, Bool, List, [], ◌∷◌, ◌++◌, append_assoc, map, Result, Ok, Err, refl, sym, ap, subst, ◌∙◌}
use Rattle.std.specs.Prelude.{⊤}
use Rattle.std.proofs.lemmas.List.{append-nil}
use Rattle.vhost_protocol.specs.Ask.{Asked, Refuses, Answers, Sends, ask}
use Rattle.vhost_protocol.specs.Error.{Error}
use Rattle.vhost_protocol.specs.FrontendCall.{FrontendCall, Frontend, Value}
use Rattle.vhost_protocol.specs.Handler.{Follows}
use Rattle.vhost_protocol.specs.Joined.{Exchanges, JoinedRun, Shown, read_as}
use Rattle.vhost_protocol.specs.Row.{row}
use Rattle.vhost_protocol.specs.Session.{Session as Memory}
use Rattle.vhost_protocol.specs.Step.{Outcome, Step, Refused, Calls, OpensBackend, OpensGpu}
use Rattle.vhost_link.specs.declared.plain.PlainHandle.{PlainHandle}
use Rattle.vhost_frontend_core.specs.Values.{call_of}
use Rattle.vhost_frontend_core.specs.declared.values.call.FrontendCall as code
use Rattle.vhost_c_common.specs.declared.refusal.Refusal.{Refusal}
use Rattle.vhost_c_backend.specs.Served as served
use Rattle.vhost_c_backend.specs.Serving.{Channel, Display}
use Rattle.vhost_c_backend.specs.declared.replies.Reply.{Reply}
use Rattle.vhost_c_backend.specs.declared.served.Served.{Served}
use Rattle.vhost_c_joined.specs.Device.{opens, replies}
use Rattle.vhost_c_joined.specs.Joined.{AllJoin, AreAllowed, AreInStep, InLockstep, Joins, UpTo, any_opens, any_reply, steps_of}
use Rattle.vhost_c_frontend.specs.Session as session
use Rattle.vhost_c_frontend.specs.declared.session.Session.{Session}
use Rattle.vhost_c_joined.specs.declared.wire.Halt.{Halt}

abbrev Call : Type 0
Call = FrontendCall PlainHandle

abbrev Steps : Type 0
Steps = List (Call × Reply)

abbrev Answered : Type 0
Answered = List (Call × Result (Value PlainHandle) Error)

-- ---- by some reply

module _ (r : Reply) where
  follows-any : (s : Memory) (x : Step PlainHandle Channel Display) (o : Outcome PlainHandle) → Follows (replies r) (opens r) (opens r) s tt x o tt → Follows any_reply any_opens any_opens s tt x o tt
  follows-any s (Refused refusal) o f = f
  follows-any s (Calls c next) o f = (f.0, (r, f.1), f.2)
  follows-any s (OpensBackend h next) o f = (f.0, (r, f.1), follows-any s (next f.0) o f.2)
  follows-any s (OpensGpu h next) o f = (f.0, (r, f.1), follows-any s (next f.0) o f.2)

  step-any : (f : Frontend) (s : Memory) (call : Call) (x : Asked PlainHandle) (shown : Shown PlainHandle) (f' : Frontend) (s' : Memory) → Exchanges (replies r) (opens r) (opens r) f s tt call x shown f' s' tt → Exchanges any_reply any_opens any_opens f s tt call x shown f' s' tt
  step-any f s call (Refuses e) shown f' s' step = step
  step-any f s call (Answers v g) shown f' s' step = step
  step-any f s call (Sends w awaited g) shown f' s' (o, met, session-is, answer-is, request-is, handled-is, reply-is, last-is) =
      (o, (met.0, follows-any s (row s (read_as w)) met.0 met.1, met.2), session-is, answer-is, request-is, handled-is, reply-is, last-is)

-- ---- a run

module _ (bit : Bool) where
  -- the answers of steps, which are a joined run
  record Run (steps : Steps) (f : Session) (b : Served) (f' : Session) (b' : Served) : Type 0 where
    answers : Answered
    of_calls : map (λ a. a.0) answers ≡ map (λ s. s.0) steps
    run : JoinedRun any_reply any_opens any_opens (session.remembers f) (served.remembers b) tt answers (session.remembers f') (served.remembers b') tt
    in_step : AreInStep bit f' b'

  runs : (steps : Steps) (f : Session) (b : Served) (f' : Session) (b' : Served) → AreInStep bit f b → AllJoin bit steps f b f' b' → Run steps f b f' b'
  runs [] f b f' b' in-step (front, back) = record {
    answers = [];
    of_calls = refl;
    run = (ap session.remembers front, ap served.remembers back, refl);
    in_step = subst {A = Session} (λ x. AreInStep bit x b') (sym front) (subst {A = Served} (λ x. AreInStep bit f x) (sym back) in-step);
  }
  runs (step ∷ steps) f b f' b' in-step (g, t, outcome, (shown, joined, result, goes, after), all) =
      let rest : Run steps g t f' b' = runs steps g t f' b' after all in
      record {
        answers = (step.0, shown.result) ∷ rest.answers;
        of_calls = ap (λ cs. step.0 ∷ cs) rest.of_calls;
        run = (
          shown,
          session.remembers g,
          served.remembers t,
          tt,
          step-any step.1 (session.remembers f) (served.remembers b) step.0 (ask (session.remembers f) step.0) shown (session.remembers g) (served.remembers t) joined,
          refl,
          λ last. absurd (cc (sym goes ∙ last)),
          rest.run,
        );
        in_step = rest.in_step;
      }

  lockstep : (steps : Steps) (f : Session) (b : Served) (f' : Session) (b' : Served) → AreInStep bit f b → AllJoin bit steps f b f' b' → InLockstep bit steps f b f' b'
  lockstep steps f b f' b' in-step all =
      let r = runs steps f b f' b' in-step all in record { each = all; answers = r.answers; of_calls = r.of_calls; run = r.run; in_step = r.in_step }

  -- ---- one more

  -- So much was done of all.
  pub record Going (all rest : Steps) (f0 : Session) (b0 : Served) (f : Session) (b : Served) : Type 0 where
    pub done : Steps
    pub is : all ≡ done ++ rest
    pub joined : AllJoin bit done f0 b0 f b
    pub in_step : AreInStep bit f b
    pub allowed : AreAllowed bit rest

  pub begins : (all : Steps) (f : Session) (b : Served) → AreInStep bit f b → AreAllowed bit all → Going all all f b f b
  begins all f b in-step allowed = record { done = []; is = refl; joined = (refl, refl); in_step = in-step; allowed = allowed }

  joins-more : (done : Steps) (step : Call × Reply) (f0 : Session) (b0 : Served) (f : Session) (b : Served) (f' : Session) (b' : Served) (outcome : Result ⊤ Refusal) → AllJoin bit done f0 b0 f b → Joins bit step.0 step.1 f b (Ok outcome) f' b' → AllJoin bit (done ++ step ∷ []) f0 b0 f' b'
  joins-more [] step f0 b0 f b f' b' outcome (front, back) joined =
      (f', b', outcome, subst {A = Session} (λ x. Joins bit step.0 step.1 x b0 (Ok outcome) f' b') front (subst {A = Served} (λ x. Joins bit step.0 step.1 f x (Ok outcome) f' b') back joined), (refl, refl))
  joins-more (first ∷ done) step f0 b0 f b f' b' outcome (g, t, out, one, all) joined = (g, t, out, one, joins-more done step g t f b f' b' outcome all joined)

  pub goes-on : (all rest rest' : Steps) (step : Call × Reply) (f0 : Session) (b0 : Served) (f : Session) (b : Served) (f' : Session) (b' : Served) (outcome : Result ⊤ Refusal) → rest ≡ step ∷ rest' → Going all rest f0 b0 f b → Joins bit step.0 step.1 f b (Ok outcome) f' b' → Going all rest' f0 b0 f' b'
  goes-on all rest rest' step f0 b0 f b f' b' outcome next g joined = record {
    done = g.done ++ step ∷ [];
    is = g.is ∙ ap (λ xs. g.done ++ xs) next ∙ sym (append_assoc g.done (step ∷ []) rest');
    joined = joins-more g.done step f0 b0 f b f' b' outcome g.joined joined;
    in_step = joined.4;
    allowed = (subst (λ xs. AreAllowed bit xs) next g.allowed).4;
  }

  -- all were done
  pub ends : (all rest : Steps) (f0 : Session) (b0 : Served) (f : Session) (b : Served) → AreInStep bit f0 b0 → rest ≡ [] → Going all rest f0 b0 f b → InLockstep bit all f0 b0 f b
  ends all rest f0 b0 f b in-step none g =
      lockstep all f0 b0 f b in-step (subst (λ xs. AllJoin bit xs f0 b0 f b) (sym (g.is ∙ ap (λ xs. g.done ++ xs) none ∙ append-nil g.done)) g.joined)

  -- one was not
  pub halts : (all rest rest' : Steps) (step : Call × Reply) (f0 : Session) (b0 : Served) (f : Session) (b : Served) (f' : Session) (b' : Served) (h : Halt) → AreInStep bit f0 b0 → rest ≡ step ∷ rest' → Going all rest f0 b0 f b → Joins bit step.0 step.1 f b (Err h) f' b' → UpTo bit all f0 b0 h f' b'
  halts all rest rest' step f0 b0 f b f' b' h in-step next g joined = record {
    before = g.done;
    step = step;
    later = rest';
    all = g.is ∙ ap (λ xs. g.done ++ xs) next;
    front = f;
    back = b;
    done = lockstep g.done f0 b0 f b in-step g.joined;
    halts = joined;
  }

-- ---- the next step

pub no-call : (cs : List code.FrontendCall) (rs : List Reply) → cs ≡ [] → steps_of cs rs ≡ []
no-call [] rs is = refl
no-call (c ∷ cs) rs is = absurd (cc is)

pub no-reply : (cs : List code.FrontendCall) (rs : List Reply) → rs ≡ [] → steps_of cs rs ≡ []
no-reply [] rs is = refl
no-reply (c ∷ cs) [] is = refl
no-reply (c ∷ cs) (r ∷ rs) is = absurd (cc is)

pub next-step : (cs cs' : List code.FrontendCall) (rs rs' : List Reply) (c : code.FrontendCall) (r : Reply) → cs ≡ c ∷ cs' → rs ≡ r ∷ rs' → steps_of cs rs ≡ (call_of c, r) ∷ steps_of cs' rs'
next-step cs cs' rs rs' c r call reply i = steps_of (call i) (reply i)
