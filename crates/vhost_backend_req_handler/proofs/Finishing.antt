-- A request was followed by its row, and what it became went out.
use Rattle.std.proofs.Common.{◌≡◌, ◌∙◌, cond, [], Result, Ok, Err, Some, None, inl, inr, refl, sym, ap, subst}
use Rattle.std.specs.Prelude.{⊤, Bool, true, false, not, ◌&&◌, ◌||◌, is_err, is_ok, is_some, Option, IfErr, IfSome}
use Rattle.std.specs.Result.{IsErrAnd}
use Rattle.vhost_message.specs.declared.error.Error as declared
use Rattle.vhost_message.specs.declared.error.Error.TheVariants as code
use Rattle.vhost_message.specs.declared.heard_req.HeardReq.{HeardReq}
use Rattle.vhost_protocol.specs.DeviceCall.{Call, Answer}
use Rattle.vhost_protocol.specs.Error.{Error, InvalidMessage, seen, seen_result}
use Rattle.vhost_protocol.specs.Handler.{Follows}
use Rattle.vhost_protocol.specs.Served.{Acknowledged}
use Rattle.vhost_protocol.specs.Session.{Session, ack_on}
use Rattle.vhost_protocol.specs.Settled.{ended, is_unanswered, saying, settled, silenced}
use Rattle.vhost_protocol.specs.Split.{Message}
use Rattle.vhost_protocol.specs.Row.{row_of}
use Rattle.vhost_protocol.specs.Step as step
use Rattle.vhost_protocol.specs.Step.{Outcome, Step, Refused, Calls, OpensBackend, OpensGpu, silently}
use Rattle.vhost_link.specs.Law.{Event}
use Rattle.vhost_connection.specs.Serving as serving
use Rattle.vhost_connection.specs.Talk.{State}
use Rattle.vhost_backend_req_handler_core.proofs.Halves.{concludes}
use Rattle.vhost_backend_req_handler_core.specs.Beginning.{step_in, step_of}
use Rattle.vhost_backend_req_handler_core.specs.Concluding.{Beside, FollowsFrom, IsRefused, answer_in, concluded, regions_beside, then_of}
use Rattle.vhost_backend_req_handler_core.specs.declared.answer.DeviceAnswer.{DeviceAnswer}
use Rattle.vhost_backend_req_handler_core.specs.declared.answer.Then.{Then}
use Rattle.vhost_backend_req_handler_core.specs.declared.call.Begun.{Begun}
use Rattle.vhost_backend_req_handler_core.specs.declared.call.DeviceCall.{DeviceCall}
use Rattle.vhost_backend_req_handler_core.specs.declared.refusal.Refusal.{Refusal}
use Rattle.vhost_backend_req_handler_core.specs.declared.refusal.Refusal.TheVariants as refusal
use Rattle.vhost_backend_req_handler_core.specs.Fits.{Makes}
use Rattle.vhost_backend_req_handler_core.specs.Refusing.{refusal_in}
use Rattle.vhost_backend_req_handler_core.specs.Settling.{Settles, formed, settled_by}
use Rattle.vhost_backend_req_handler_core.specs.declared.settle.Form.{Form}
use Rattle.vhost_backend_req_handler_core.specs.declared.settle.Form.TheVariants as form
use Rattle.vhost_backend_req_handler_core.specs.declared.settle.Unanswered.{Unanswered}
use Rattle.vhost_backend_req_handler_core.specs.declared.settle.Unanswered.TheVariants as unanswered
use Rattle.vhost_backend_req_handler.proofs.Fitting.{answer_fits}
use Rattle.vhost_backend_req_handler.specs.Calling.{Called}
use Rattle.vhost_backend_req_handler.specs.Sized.{AnswerSized}
use Rattle.vhost_backend_req_handler.specs.Serving.{Answers, Finishes, fitting, kept_unsent, refused_silently, reply_cells}
use Rattle.vhost_backend_req_handler.specs.Serving.Finishes.{finished, stopped}

module _ {L H B G Dev : Type 0} {event : L → Event H → L → Type 0} {gives : Dev → (c : Call H B G) → Answer c → Dev → Type 0}
    {opens_backend : H → Result B Error → Type 0} {opens_gpu : H → Result G Error → Type 0} {m : Message HeardReq H} where
  -- the row was followed, and what it became, settled, went out
  pub answers : {step : Step H B G} {old new : State L H} {s s' : Session} {d d' : Dev} {result : Result ⊤ declared.Error} (told : Outcome H) → Follows (fitting gives) opens_backend opens_gpu s d step told d'
      → Finishes event m.request (settled s m told) old s result new s' → Answers event gives opens_backend opens_gpu m step old s d result new s' d'
  answers {s = s} told follows (finished is p after) = serving.answered (record {
    written = reply_cells m.request (settled s m told).served;
    meets = record { told = told; follows = follows; is_answer = sym is; is_written = refl; session = after };
    replies = p;
  })
  answers {s = s} told follows (stopped p kept) = serving.interrupted (record {
    answer = (settled s m told).answer;
    written = reply_cells m.request (settled s m told).served;
    after = (settled s m told).session;
    meets = record { told = told; follows = follows; is_answer = refl; is_written = refl; session = refl };
    stops = p;
    session = kept;
  })

  -- by what was kept of the message
  pub answers_by : {step : Step H B G} {old new : State L H} {s s' : Session} {d d' : Dev} {result : Result ⊤ declared.Error} (u : Unanswered) (told : Outcome H) → Settles s m u → Follows (fitting gives) opens_backend opens_gpu s d step told d'
      → Finishes event m.request (settled_by u told) old s result new s' → Answers event gives opens_backend opens_gpu m step old s d result new s' d'
  answers_by {old = old} {new = new} {s = s} {s' = s'} {result = result} u told settles follows done = answers told follows (subst (λ (o : Outcome H). Finishes event m.request o old s result new s') (settles told) done)

  -- the row by another name
  pub by_row : {step other : Step H B G} {old new : State L H} {s s' : Session} {d d' : Dev} {result : Result ⊤ declared.Error} → other ≡ step
      → Answers event gives opens_backend opens_gpu m other old s d result new s' d' → Answers event gives opens_backend opens_gpu m step old s d result new s' d'
  by_row {old = old} {new = new} {s = s} {s' = s'} {d = d} {d' = d'} {result = result} e p = subst (λ x. Answers event gives opens_backend opens_gpu m x old s d result new s' d') e p

  -- a refusal in silence, settled
  pub refused : {old new : State L H} {s s' : Session} {d : Dev} {result : Result ⊤ declared.Error} (u : Unanswered) (e : declared.Error) (r' : Refusal) → seen e ≡ refusal_in r' → Settles s m u
      → Finishes event m.request (settled_by u (refused_silently s (seen e))) old s result new s' → Answers event gives opens_backend opens_gpu m (Refused (silently (refusal_in r'))) old s d result new s' d
  refused {old = old} {new = new} {s = s} {s' = s'} {result = result} u e r' is settles done = answers_by u (refused_silently s (refusal_in r')) settles (refl, refl)
      (subst (λ (x : Error). Finishes event m.request (settled_by u (refused_silently s x)) old s result new s') is done)

-- what a request became, by its variant
pub begun_as : {H B G : Type 0} (s : Session) (m : Message HeardReq H) {begun v : Result Begun Refusal} {row : Step H B G} → step_in s m begun ≡ row → begun ≡ v → step_in s m v ≡ row
begun_as s m {row = row} is e = subst (λ x. step_in s m x ≡ row) e is

module _ {H B G Dev : Type 0} (gives : Dev → (c : Call H B G) → Answer c → Dev → Type 0) (opens_backend : H → Result B Error → Type 0) (opens_gpu : H → Result G Error → Type 0)
    (s : Session) (b : Beside) (a : DeviceAnswer H) (o : Outcome H) (d d' : Dev) (sized : AnswerSized b.shmem a) where
  refused_by : (step : Step H B G) → IsRefused s step o → d' ≡ d → Follows (fitting gives) opens_backend opens_gpu s d step o d'
  refused_by (Refused r) is same = (is, same)
  refused_by (Calls c next) is same = absurd is
  refused_by (OpensBackend h next) is same = absurd is
  refused_by (OpensGpu h next) is same = absurd is

  -- the device was called as the step says, and what follows from its answer is the outcome
  pub followed : (step : Step H B G) → Called gives opens_backend opens_gpu d b step (Some a) d' → FollowsFrom s b a step o → Follows (fitting gives) opens_backend opens_gpu s d step o d'
  followed (Refused r) called is = absurd called
  followed (Calls c next) called is = (answer_in b c a, (called, answer_fits c b a sized), is)
  followed (OpensBackend h next) (inl (channel, opened, ok, called)) is = (Ok channel, opened, followed (next (Ok channel)) called (is.0 channel ok))
  followed (OpensBackend h next) (inr (e, opened, err, same)) is = (Err e, opened, refused_by (next (Err e)) (is.1 e err) same)
  followed (OpensGpu h next) (inl (channel, opened, called)) is = (Ok channel, opened, followed (next (Ok channel)) called (is.0 channel))
  followed (OpensGpu h next) (inr (e, opened, err, same)) is = (Err e, opened, refused_by (next (Err e)) (is.1 e err) same)

-- no call was made, since the handles are not those of the call
pub uncalled : {H B G Dev : Type 0} (gives : Dev → (c : Call H B G) → Answer c → Dev → Type 0) (opens_backend : H → Result B Error → Type 0) (opens_gpu : H → Result G Error → Type 0)
    (d d' : Dev) (b : Beside) (step : Step H B G) → Called gives opens_backend opens_gpu d b step None d' → (step ≡ Refused (silently InvalidMessage)) × (d' ≡ d)
uncalled gives opens_backend opens_gpu d d' b (Refused r) (is, same) = (ap (λ x. Refused x) is, same)
uncalled gives opens_backend opens_gpu d d' b (Calls c next) called = absurd called
uncalled gives opens_backend opens_gpu d d' b (OpensBackend h next) called = absurd called
uncalled gives opens_backend opens_gpu d d' b (OpensGpu h next) called = absurd called

module _ {L H B G Dev : Type 0} {event : L → Event H → L → Type 0} {gives : Dev → (c : Call H B G) → Answer c → Dev → Type 0}
    {opens_backend : H → Result B Error → Type 0} {opens_gpu : H → Result G Error → Type 0} where
  -- the device was called, over a session and an endpoint that the call left as they were, and what it answered went out
  pub made : (s t : Session) (old mid new : State L H) (m : Message HeardReq H) (call : DeviceCall) (then : Then) (u : Unanswered) (b : Beside) (a : DeviceAnswer H) (d d' : Dev) (s' : Session) (result : Result ⊤ declared.Error)
      → t ≡ s → mid ≡ old → then ≡ then_of call → b.regions ≡ regions_beside call → AnswerSized b.shmem a → Settles s m u
      → Called gives opens_backend opens_gpu d b (step_of s m call) (Some a) d' → Finishes event m.request (settled_by u (concluded t m.need_reply b then a)) mid t result new s'
      → Answers event gives opens_backend opens_gpu m (step_of s m call) old s d result new s' d'
  made s t old mid new m call then u b a d d' s' result session endpoint is regions sized settles called done =
      let outcome = concluded s m.need_reply b (then_of call) a in
      let told = subst (λ (x : Then). Finishes event m.request (settled_by u (concluded s m.need_reply b x a)) old s result new s') is
      (subst (λ (x : State L H). Finishes event m.request (settled_by u (concluded s m.need_reply b then a)) x s result new s') endpoint
      (subst (λ (x : Session). Finishes event m.request (settled_by u (concluded x m.need_reply b then a)) mid x result new s') session done)) in
      answers_by u outcome settles (followed gives opens_backend opens_gpu s b a outcome d d' sized (step_of s m call) called (concludes _ _ s m b a call regions)) told

  -- the handles are not those of the call, and nothing was touched: it is refused
  pub unmade : (s t : Session) (old mid new : State L H) (m : Message HeardReq H) (call : DeviceCall) (u : Unanswered) (b : Beside) (d d' : Dev) (s' : Session) (result : Result ⊤ declared.Error)
      → t ≡ s → mid ≡ old → Settles s m u → Called gives opens_backend opens_gpu d b (step_of s m call) None d' → Finishes event m.request (settled_by u (refused_silently t InvalidMessage)) mid t result new s'
      → Answers event gives opens_backend opens_gpu m (step_of s m call) old s d result new s' d'
  unmade s t old mid new m call u b d d' s' result session endpoint settles called done =
      let none = uncalled gives opens_backend opens_gpu d d' b (step_of s m call) called in
      let told = subst (λ (x : State L H). Finishes event m.request (settled_by u (refused_silently s InvalidMessage)) x s result new s') endpoint
      (subst (λ (x : Session). Finishes event m.request (settled_by u (refused_silently x InvalidMessage)) mid x result new s') session done) in
      let plain : Answers event gives opens_backend opens_gpu m (step_of s m call) old s d result new s' d = by_row (sym none.0) (refused u code.InvalidMessage refusal.InvalidMessage refl settles told) in
      subst (λ (x : Dev). Answers event gives opens_backend opens_gpu m (step_of s m call) old s d result new s' x) (sym none.1) plain

-- what is settled answers the same
answer-kept : {H : Type 0} (u : Unanswered) (o : Outcome H) → (settled_by u o).answer ≡ o.answer
answer-kept unanswered.Stays o = refl
answer-kept (unanswered.Own f) o = go (is_unanswered true o.served) f
  where
    go : (b : Bool) (f : Form) → (cond b (formed f (silenced o)) o).answer ≡ o.answer
    go false f = refl
    go true form.Ends = refl
    go true form.Empty = refl
    go true (form.Number n) = refl
    go true form.Outcome = refl
    go true (form.Config c) = refl
    go true (form.Inflight i) = refl
answer-kept (unanswered.Acks a) o = go (is_unanswered false o.served) (is_err o.answer && (a.reply || a.turns && not (ack_on o.session && a.need_reply))) (ack_on o.session && a.need_reply)
  where
    go : (b e w : Bool) → (cond b (cond e (ended (silenced o)) (cond w (saying (silenced o) (Acknowledged (is_ok o.answer))) (silenced o))) o).answer ≡ o.answer
    go false e w = refl
    go true true w = refl
    go true false true = refl
    go true false false = refl

-- a refusal is never answered as success
pub never_fine : {L H : Type 0} {event : L → Event H → L → Type 0} {r : HeardReq} {e : Error} {old new : State L H} {s s' : Session} (u : Unanswered) (o : Outcome H)
    → o.answer ≡ Err e → Finishes event r (settled_by u o) old s (Ok tt) new s' → ⊥
never_fine u o is (finished fine p after) = cc (sym (answer-kept u o ∙ is) ∙ fine)

-- what holds of an answer that is an error
pub if_error : (F : Result ⊤ declared.Error → Type 0) (e : declared.Error) (result : Result ⊤ declared.Error) → IsErrAnd result (λ y. y ≡ e) → F result → IfErr result (λ x. F (Err x))
if_error F e (Ok a) is p = absurd is
if_error F e (Err x) is p = p

-- what holds of an answer that is there
pub if_some : {A : Type 0} (F : Option A → Type 0) (result : Option A) → F result → IfSome result (λ a. F (Some a))
if_some F None p = tt
if_some F (Some a) p = p

-- a step that does not refuse was answered
pub answered_by : {H B G Dev : Type 0} (gives : Dev → (c : Call H B G) → Answer c → Dev → Type 0) (opens_backend : H → Result B Error → Type 0) (opens_gpu : H → Result G Error → Type 0)
    (d d' : Dev) (b : Beside) (step : Step H B G) (a : Option (DeviceAnswer H)) → Makes step → Called gives opens_backend opens_gpu d b step a d' → is_some a ≡ true
answered_by gives opens_backend opens_gpu d d' b (Refused r) a makes called = absurd makes
answered_by gives opens_backend opens_gpu d d' b (Calls c next) None makes called = absurd called
answered_by gives opens_backend opens_gpu d d' b (Calls c next) (Some a) makes called = refl
answered_by gives opens_backend opens_gpu d d' b (OpensBackend h next) None makes called = absurd called
answered_by gives opens_backend opens_gpu d d' b (OpensBackend h next) (Some a) makes called = refl
answered_by gives opens_backend opens_gpu d d' b (OpensGpu h next) None makes called = absurd called
answered_by gives opens_backend opens_gpu d d' b (OpensGpu h next) (Some a) makes called = refl

-- the message that was read is refused, and so is the message that it is
pub unmakes : {H B G : Type 0} (s : Session) (read m : Message HeardReq H) (r : step.Refusal H) → Refused r ≡ row_of {B = B} {G = G} read.request s read → read ≡ m → Makes (row_of {B = B} {G = G} m.request s m) → ⊥
unmakes {B = B} {G = G} s read m r row same makes =
    subst (λ (step : Step _ B G). Makes step) (sym row) (subst (λ (x : Message HeardReq _). Makes (row_of {B = B} {G = G} x.request s x)) (sym same) makes)
