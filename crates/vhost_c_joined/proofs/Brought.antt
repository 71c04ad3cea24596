-- The descriptors that a message brings: a request those of its call, a reply that of the device's answer.
use Rattle.std.proofs.Common.{◌≡◌, ◌<◌, ◌≤◌, inl, inr, ℕ, ℤ, Bool, true, false, cond, List, [], ◌∷◌, length, All, Option, Some, None, Result, Ok, Err, refl, sym, ap, subst, ◌∙◌, ◌&&◌, arith}
use Rattle.std.specs.Prelude.{⊤, pos, negsuc, int_lt, is_ok, IfOk, IfSome, ◌==◌, ◌^◌, not, if◌then◌else◌}
use Rattle.std.proofs.lemmas.Bool.{ltb-true, le-ltb}
use Rattle.std.proofs.lemmas.List.Elements.{All-nil, All-cons}
use Rattle.vhost_message.specs.declared.heard_req.HeardReq.{HeardReq}
use Rattle.vhost_message.specs.declared.heard_req.HeardReq.TheVariants.{GET_CONFIG, GET_INFLIGHT_FD, GET_SHARED_OBJECT, POSTCOPY_ADVISE, SET_DEVICE_STATE_FD, CHECK_DEVICE_STATE, POSTCOPY_END, SET_MEM_TABLE}
use Rattle.vhost_message.specs.declared.records.config.VhostUserConfig.{VhostUserConfig}
use Rattle.vhost_message.specs.declared.records.inflight.VhostUserInflight.{VhostUserInflight}
use Rattle.vhost_message.specs.declared.records.memory.VhostUserMemoryRegion.{VhostUserMemoryRegion}
use Rattle.vhost_message.specs.declared.records.memory.VhostUserSingleMemoryRegion.{VhostUserSingleMemoryRegion}
use Rattle.vhost_protocol.specs.Answered.{rebased, with_handle, with_inflight, with_state, with_check, with_features, with_config, with_base, with_bases}
use Rattle.vhost_protocol.specs.Ask.{Asked, Sends, ask, given, given_handle, ◌>>◌, ◌>>=◌}
use Rattle.vhost_protocol.specs.DeviceCall as device
use Rattle.vhost_protocol.specs.DeviceCall.{Call, Answer}
use Rattle.vhost_protocol.specs.Error.{Error, BackendInternalError, test}
use Rattle.vhost_protocol.specs.FrontendCall.{FrontendCall, SetLogBase, Frontend}
use Rattle.vhost_protocol.specs.Handler.{Follows, Meets}
use Rattle.vhost_protocol.specs.Profile.{is_standard}
use Rattle.vhost_protocol.specs.Row.{row, row_of, only, channel}
use Rattle.vhost_protocol.specs.Served.{Served, Silent, Acknowledged}
use Rattle.vhost_protocol.specs.Session.{Session, ack_on}
use Rattle.vhost_protocol.specs.Settled.{awaits_reply, awaits_ack, is_unanswered, is_fatal, ended, silenced, saying, refused_reply, spoken, settled}
use Rattle.vhost_protocol.specs.Split.{Message}
use Rattle.vhost_protocol.specs.Step as step
use Rattle.vhost_protocol.specs.Step.{Outcome, Step, Refused, Calls, OpensBackend, OpensGpu, acknowledged, failed_with, replied}
use Rattle.vhost_protocol.specs.Written.{Payload, ConfigBytes, Regions}
use Rattle.vhost_protocol.proofs.SettleLaws.{pick}
use Rattle.vhost_link.specs.declared.handle.Kind.TheVariants.{NoSocket}
use Rattle.vhost_link.specs.declared.plain.PlainHandle.{PlainHandle}
use Rattle.vhost_backend_req_handler_core.specs.Concluding.{Beside, answer_in}
use Rattle.vhost_backend_req_handler_core.specs.Concluding as answer_of
use Rattle.vhost_backend_req_handler_core.specs.declared.answer.DeviceAnswer.{DeviceAnswer}
use Rattle.vhost_c_common.specs.Records.{handle_in, fd_in}
use Rattle.vhost_c_backend.specs.Replies.{Gives}
use Rattle.vhost_c_backend.specs.Serving.{Channel, Display}
use Rattle.vhost_c_backend.specs.declared.replies.Form.TheVariants as form
use Rattle.vhost_c_backend.specs.declared.replies.Reply.{Reply}
use Rattle.vhost_c_backend.specs.declared.replies.Reply.TheVariants as reply
use Rattle.vhost_c_joined.specs.Device.{IsSized, Says, form_of, opens, replies}
use Rattle.vhost_c_joined.specs.Joined.{handles_of}
use Rattle.vhost_c_joined.specs.Wire.{IsFd}
use Rattle.vhost_c_joined.proofs.Replying.{handles_in}

abbrev Handles : List PlainHandle → Type 0
Handles hs = All IsFd hs

no-fds : Handles []
no-fds = All-nil IsFd

one-fd : (h : PlainHandle) → IsFd h → Handles (h ∷ [])
one-fd h fd = All-cons IsFd h [] fd no-fds

-- ---- of a request

abbrev pub AsksFds : Asked PlainHandle → Type 0
AsksFds (Sends w awaited g) = Handles w.handles
AsksFds _ = ⊤

ask-then : (x : Result ⊤ Error) (next : Asked PlainHandle) → AsksFds next → AsksFds (x >> next)
ask-then (Ok u) next fds = fds
ask-then (Err e) next fds = tt

ask-given : (x : Option PlainHandle) (next : PlainHandle → Asked PlainHandle) → Handles (given_handle x) → ((h : PlainHandle) → Handles (h ∷ []) → AsksFds (next h)) → AsksFds (given x >>= next)
ask-given (Some h) next fds by = by h fds
ask-given None next fds by = tt

ask-cond : (b : Bool) (x y : Asked PlainHandle) → AsksFds x → AsksFds y → AsksFds (cond b x y)
ask-cond true x y h k = h
ask-cond false x y h k = k

ruleset asking = (ask-then, ask-given, ask-cond, no-fds)

asks-fds : (f : Frontend) (call : FrontendCall PlainHandle) → Handles (handles_of call) → AsksFds (ask f call)
asks-fds f (SetLogBase base (Some log)) fds = search asking depth 12
asks-fds f (SetLogBase base None) fds = no-fds
asks-fds f _ fds = search asking depth 12

-- ---- of a reply, by the table

-- the handle of a device's answer, if there is one
abbrev AnswerFds : {B G : Type 0} → (c : Call PlainHandle B G) → Answer c → Type 0
AnswerFds (device.GetSharedObject name) a = IfOk a IsFd
AnswerFds device.PostcopyAdvice a = IfOk a IsFd
AnswerFds (device.SetDeviceStateFd t h) a = IfOk a (λ o. IfSome o IsFd)
AnswerFds (device.GetInflightFd area) a = IfOk a (λ x. IsFd x.1)
AnswerFds _ a = ⊤

abbrev Brings : Served PlainHandle → Type 0
Brings v = Handles (handles_in v)

-- whatever the device answers
abbrev AllBring : {B G : Type 0} → Step PlainHandle B G → Type 0
AllBring (Refused refusal) = Brings refusal.served
AllBring (Calls c next) = (a : Answer c) → AnswerFds c a → Brings (next a).served
AllBring {B = B} (OpensBackend h next) = (opened : Result B Error) → AllBring (next opened)
AllBring {G = G} (OpensGpu h next) = (opened : Result G Error) → AllBring (next opened)

module _ (B G : Type 0) where
  abbrev Row : Type 0
  Row = Step PlainHandle B G

  -- an acknowledgement, or silence
  row-ack : (w agreed : Bool) → Brings (cond w (Acknowledged agreed) Silent)
  row-ack true agreed = no-fds
  row-ack false agreed = no-fds

  row-then : (b : Bool) (e : Error) (next : Row) → AllBring next → AllBring (step.◌>>◌ (test b (step.silently e)) next)
  row-then true e next h = h
  row-then false e next h = no-fds

  row-then_aloud : (s : Session) (m : Message HeardReq PlainHandle) (b : Bool) (e : Error) (next : Row) → AllBring next → AllBring (step.◌>>◌ (test b (acknowledged s m e)) next)
  row-then_aloud s m true e next h = h
  row-then_aloud s m false e next h = row-ack (ack_on s && m.need_reply) false

  row-if : (A : Type 0) (b : Bool) (a : A) (e : Error) (next : A → Row) → AllBring (next a) → AllBring (step.◌>>=◌ (cond b (Ok a) (Err (step.silently e))) next)
  row-if A true a e next h = h
  row-if A false a e next h = no-fds

  row-one : (hs : List PlainHandle) (e : Error) (next : PlainHandle → Row) → ((h : PlainHandle) → AllBring (next h)) → AllBring (step.◌>>=◌ (only (step.silently e) hs) next)
  row-one [] e next h = no-fds
  row-one (x ∷ []) e next h = h x
  row-one (x ∷ y ∷ hs) e next h = no-fds

  row-one_aloud : (s : Session) (m : Message HeardReq PlainHandle) (hs : List PlainHandle) (e : Error) (next : PlainHandle → Row) → ((h : PlainHandle) → AllBring (next h)) → AllBring (step.◌>>=◌ (only (acknowledged s m e) hs) next)
  row-one_aloud s m [] e next h = row-ack (ack_on s && m.need_reply) false
  row-one_aloud s m (x ∷ []) e next h = h x
  row-one_aloud s m (x ∷ y ∷ hs) e next h = row-ack (ack_on s && m.need_reply) false

  row-channel : (C : Type 0) (s : Session) (m : Message HeardReq PlainHandle) (opened : Result C Error) (next : C → Row) → ((c : C) → AllBring (next c)) → AllBring (step.◌>>=◌ (channel s m opened) next)
  row-channel C s m (Ok c) next h = h c
  row-channel C s m (Err e) next h = row-ack (ack_on s && m.need_reply) false

  row-cond : (b : Bool) (x y : Row) → AllBring x → AllBring y → AllBring (cond b x y)
  row-cond true x y h k = h
  row-cond false x y h k = k

  row-number : (A : Type 0) (s : Session) (payload : A → Payload) (a : Result A Error) → Brings (step.replied_or_silent s payload a).served
  row-number A s payload (Ok a) = no-fds
  row-number A s payload (Err e) = no-fds

  row-features : (s : Session) (a : Result ℕ Error) → Brings (with_features s a).served
  row-features s (Ok a) = no-fds
  row-features s (Err e) = no-fds

  row-handle : (s : Session) (a : Result PlainHandle Error) → IfOk a IsFd → Brings (with_handle s a).served
  row-handle s (Ok h) fd = one-fd h fd
  row-handle s (Err e) fd = no-fds

  row-inflight : (s : Session) (a : Result (VhostUserInflight × PlainHandle) Error) → IfOk a (λ x. IsFd x.1) → Brings (with_inflight s a).served
  row-inflight s (Ok x) fd = one-fd x.1 fd
  row-inflight s (Err e) fd = no-fds

  row-state : (s : Session) (a : Result (Option PlainHandle) Error) → IfOk a (λ o. IfSome o IsFd) → Brings (with_state s a).served
  row-state s (Ok (Some h)) fd = one-fd h fd
  row-state s (Ok None) fd = no-fds
  row-state s (Err e) fd = no-fds

  row-check : (s : Session) (a : Result ⊤ Error) → Brings (with_check s a).served
  row-check s (Ok u) = no-fds
  row-check s (Err e) = no-fds

  row-config : (s : Session) (c : VhostUserConfig) (a : Result (List ℕ) Error) → Brings (with_config s c a).served
  row-config s c (Ok bytes) = go (length bytes == c.size)
    where
      go : (b : Bool) → Brings (cond b (replied {H = PlainHandle} s (ConfigBytes c bytes) []) (replied s (ConfigBytes (record c { size = 0 }) []) [])).served
      go true = no-fds
      go false = no-fds
  row-config s c (Err e) = no-fds

  row-base : (s : Session) (m : Message HeardReq PlainHandle) (r : VhostUserSingleMemoryRegion) (a : Result (Option ℕ) Error) → Brings (with_base s m r a).served
  row-base s m r (Ok (Some base)) = no-fds
  row-base s m r (Ok None) = row-ack (ack_on s && m.need_reply) false
  row-base s m r (Err e) = row-ack (ack_on s && m.need_reply) false

  row-bases : (s : Session) (m : Message HeardReq PlainHandle) (regions : List VhostUserMemoryRegion) (a : Result (Option (List ℕ)) Error) → Brings (with_bases s m regions a).served
  row-bases s m regions (Ok (Some bases)) = go (length bases == length regions)
    where
      go : (b : Bool) → Brings (cond b (replied s (Regions (rebased regions bases)) []) (failed_with s m BackendInternalError)).served
      go true = no-fds
      go false = row-ack (ack_on s && m.need_reply) false
  row-bases s m regions (Ok None) = row-ack (ack_on s && m.need_reply) false
  row-bases s m regions (Err e) = row-ack (ack_on s && m.need_reply) false

  ruleset bringing = (row-then, row-then_aloud, row-if, row-one, row-one_aloud, row-channel, row-cond, row-ack, row-number, row-features, row-handle, row-inflight, row-state, row-check, row-config, row-base, row-bases, no-fds)

  rows-bring : (r : HeardReq) (s : Session) (m : Message HeardReq PlainHandle) → AllBring {B = B} {G = G} (row_of r s m)
  rows-bring SET_MEM_TABLE s m = search bringing depth 12
  rows-bring _ s m = search bringing depth 12

-- what a silence becomes brings none
settled-brings : (s : Session) (m : Message HeardReq PlainHandle) (o : Outcome PlainHandle) → Brings o.served → Brings (settled s m o).served
settled-brings s m o fds = go (is_standard s.profile && is_unanswered (awaits_reply s m) o.served)
  where
    refused : (r : HeardReq) (body : List ℕ) → Brings (refused_reply r body (silenced o)).served
    refused GET_CONFIG body = no-fds
    refused GET_INFLIGHT_FD body = no-fds
    refused GET_SHARED_OBJECT body = no-fds
    refused POSTCOPY_ADVISE body = no-fds
    refused SET_DEVICE_STATE_FD body = no-fds
    refused CHECK_DEVICE_STATE body = no-fds
    refused POSTCOPY_END body = no-fds
    refused _ body = no-fds

    go : (b : Bool) → Brings (cond b (spoken s m (silenced o)) o).served
    go true = pick PlainHandle (awaits_reply s m) (not m.reply) (is_fatal m (silenced o)) (awaits_ack m (silenced o)) (refused_reply m.request m.body (silenced o)) (ended (silenced o)) (saying (silenced o) (Acknowledged (is_ok o.answer))) (silenced o) (λ (x : Outcome PlainHandle). Brings x.served)
        (λ own. refused m.request m.body) no-fds (λ none wants. no-fds) (λ none wants. no-fds)
    go false = fds

-- ---- of a reply, by the device's

-- the handle of a descriptor
abbrev numbered : ℕ → PlainHandle
numbered n = record { id = n; kind = NoSocket }

fd-again : (fd : ℤ) (h : PlainHandle) → int_lt fd (pos (2 ^ 31)) ≡ true → handle_in fd ≡ Some h → IsFd h
fd-again (negsuc n) h small is = absurd (cc is)
fd-again (pos n) h small is = ap handle_in number ∙ is
  where
    by : (b : Bool) → cond b None (Some (numbered n)) ≡ Some h → h ≡ numbered n
    by true at = absurd (cc at)
    by false at = let same : numbered n ≡ h = cc at in sym same

    within : n ≤ 2147483647
    within = let few : n < 2 ^ 31 = ltb-true n (2 ^ 31) small in omega (arith, few)

    number : fd_in h ≡ pos n
    number = ap fd_in (by (int_lt (pos n) (pos 0)) is) ∙ ap (λ b. if b then negsuc 0 else pos n) (le-ltb 2147483647 n within)

module _ (r : Reply) (sized : IsSized r) where
  handle-fd : (a : DeviceAnswer PlainHandle) → Says form.Fd r a → IfOk (answer_of.handle_in a) IsFd
  handle-fd a (inr other) = subst {A = DeviceAnswer PlainHandle} (λ x. IfOk (answer_of.handle_in x) IsFd) (sym other.1) tt
  handle-fd a (inl gives) = by r sized gives
    where
      by : (q : Reply) → IsSized q → Gives form.Fd q a → IfOk (answer_of.handle_in a) IsFd
      by (reply.Fd fd) small gives = subst {A = DeviceAnswer PlainHandle} (λ x. IfOk (answer_of.handle_in x) IsFd) (sym gives.2) (fd-again fd gives.0 small gives.1)
      by reply.Refused small gives = subst {A = DeviceAnswer PlainHandle} (λ x. IfOk (answer_of.handle_in x) IsFd) (sym gives) tt
      by _ small gives = absurd gives

  inflight-fd : (a : DeviceAnswer PlainHandle) → Says form.Inflight r a → IfOk (answer_of.inflight_in a) (λ x. IsFd x.1)
  inflight-fd a (inr other) = subst {A = DeviceAnswer PlainHandle} (λ x. IfOk (answer_of.inflight_in x) (λ y. IsFd y.1)) (sym other.1) tt
  inflight-fd a (inl gives) = by r sized gives
    where
      by : (q : Reply) → IsSized q → Gives form.Inflight q a → IfOk (answer_of.inflight_in a) (λ x. IsFd x.1)
      by (reply.Inflight area fd) small gives = subst {A = DeviceAnswer PlainHandle} (λ x. IfOk (answer_of.inflight_in x) (λ y. IsFd y.1)) (sym gives.2) (fd-again fd gives.0 small.1 gives.1)
      by reply.Refused small gives = subst {A = DeviceAnswer PlainHandle} (λ x. IfOk (answer_of.inflight_in x) (λ y. IsFd y.1)) (sym gives) tt
      by _ small gives = absurd gives

  state-fd : (a : DeviceAnswer PlainHandle) → Says form.StateFd r a → IfOk (answer_of.state_handle_in a) (λ o. IfSome o IsFd)
  state-fd a (inr other) = subst {A = DeviceAnswer PlainHandle} (λ x. IfOk (answer_of.state_handle_in x) (λ o. IfSome o IsFd)) (sym other.1) tt
  state-fd a (inl gives) = by r sized gives
    where
      some : (fd : ℤ) → int_lt fd (pos (2 ^ 31)) ≡ true → (o : Option PlainHandle) → handle_in fd ≡ o → IfSome o IsFd
      some fd small (Some h) is = fd-again fd h small is
      some fd small None is = tt

      by : (q : Reply) → IsSized q → Gives form.StateFd q a → IfOk (answer_of.state_handle_in a) (λ o. IfSome o IsFd)
      by (reply.Fd fd) small gives = subst {A = DeviceAnswer PlainHandle} (λ x. IfOk (answer_of.state_handle_in x) (λ o. IfSome o IsFd)) (sym gives) (some fd small (handle_in fd) refl)
      by reply.Refused small gives = subst {A = DeviceAnswer PlainHandle} (λ x. IfOk (answer_of.state_handle_in x) (λ o. IfSome o IsFd)) (sym gives) tt
      by _ small gives = absurd gives

  said-fds : (c : Call PlainHandle Channel Display) (b : Beside) (a : DeviceAnswer PlainHandle) → Says (form_of c) r a → AnswerFds c (answer_in b c a)
  said-fds (device.GetSharedObject name) b a says = handle-fd a says
  said-fds device.PostcopyAdvice b a says = handle-fd a says
  said-fds (device.SetDeviceStateFd t h) b a says = state-fd a says
  said-fds (device.GetInflightFd area) b a says = inflight-fd a says
  said-fds _ b a says = tt

  -- what follows in the table
  followed-brings : (s : Session) (x : Step PlainHandle Channel Display) (o : Outcome PlainHandle) → AllBring x → Follows (replies r) (opens r) (opens r) s tt x o tt → Brings o.served
  followed-brings s (Refused refusal) o all f = subst {A = Outcome PlainHandle} (λ y. Brings y.served) (sym f.0) all
  followed-brings s (Calls c next) o all (a, (x, says, b, is), same) =
      subst {A = Outcome PlainHandle} (λ y. Brings y.served) (sym same) (all a (subst {A = Answer c} (λ y. AnswerFds c y) (sym is) (said-fds c b x says)))
  followed-brings s (OpensBackend h next) o all f = followed-brings s (next f.0) o (all f.0) f.2
  followed-brings s (OpensGpu h next) o all f = followed-brings s (next f.0) o (all f.0) f.2

  -- a reply brings descriptors alone
  pub met-brings : (s : Session) (m : Message HeardReq PlainHandle) (o : Outcome PlainHandle) → Meets (replies r) (opens r) (opens r) s tt m o tt → All IsFd (handles_in o.served)
  met-brings s m o met = subst {A = Outcome PlainHandle} (λ y. Brings y.served) (sym met.2) (settled-brings s m met.0 (followed-brings s (row s m) met.0 (rows-bring Channel Display m.request s m) met.1))

-- so does a request
pub sent-brings : (f : Frontend) (call : FrontendCall PlainHandle) (x : Asked PlainHandle) → All IsFd (handles_of call) → ask f call ≡ x → AsksFds x
sent-brings f call x fds is = subst (λ y. AsksFds y) is (asks-fds f call fds)
