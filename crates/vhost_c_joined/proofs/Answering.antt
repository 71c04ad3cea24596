-- A call that is to be answered is answered by a reply.
use Rattle.std.proofs.Common.{◌≡◌, ◌⊎◌, inl, inr, Bool, true, false, cond, List, [], ◌∷◌, ◌++◌, Option, Some, None, Result, Ok, Err, refl, sym, ap, subst, ◌∙◌}
use Rattle.std.specs.Prelude.{⊤}
use Rattle.vhost_message.specs.declared.error.Error as declared
use Rattle.vhost_message.specs.declared.error.Error.TheVariants.{OutOfMemory, InvalidParam}
use Rattle.vhost_message.specs.declared.records.shmem.VhostUserShMemConfig.{VhostUserShMemConfig}
use Rattle.vhost_protocol.specs.Answered.{calls}
use Rattle.vhost_protocol.specs.DeviceCall as device
use Rattle.vhost_protocol.specs.DeviceCall.{Call}
use Rattle.vhost_protocol.specs.Error.{Error}
use Rattle.vhost_protocol.specs.Handler.{Follows}
use Rattle.vhost_protocol.specs.Row.{channel}
use Rattle.vhost_protocol.specs.Session.{Session}
use Rattle.vhost_protocol.specs.Settled.{settled}
use Rattle.vhost_protocol.specs.Step.{Outcome, Step, Calls, OpensBackend, OpensGpu, ◌>>=◌}
use Rattle.vhost_link.specs.declared.plain.PlainHandle.{PlainHandle}
use Rattle.vhost_backend_req_handler_core.specs.Beginning.{step_of, with_one, with_wanted}
use Rattle.vhost_backend_req_handler_core.specs.Concluding.{Beside, FollowsFrom, answer_in, done_in}
use Rattle.vhost_backend_req_handler_core.specs.Fits.{Makes}
use Rattle.vhost_backend_req_handler_core.specs.declared.answer.DeviceAnswer.{DeviceAnswer}
use Rattle.vhost_backend_req_handler_core.specs.declared.call.DeviceCall.{DeviceCall}
use Rattle.vhost_backend_req_handler_core.specs.declared.call.DeviceCall.TheVariants as call
use Rattle.vhost_backend_req_handler.specs.Calling.{beside}
use Rattle.vhost_backend_req_handler.specs.Core.{endpoint_of}
use Rattle.vhost_backend_req_handler.specs.Serving.{reply_cells}
use Rattle.vhost_c_common.specs.declared.refusal.Refusal.{Refusal}
use Rattle.vhost_c_common.specs.declared.refusal.Refusal.TheVariants.{Protocol, OtherCall}
use Rattle.vhost_c_backend.specs.Replies.{form_in, fits, Gives, Rejects, IsBad}
use Rattle.vhost_c_backend.specs.Served as served
use Rattle.vhost_c_backend.specs.Serving as serving
use Rattle.vhost_c_backend.specs.Serving.{Request, Channel, Display, row, IsCall, Concludes, told, stopped, Rests, Replying, done, failed, rejected, Answering}
use Rattle.vhost_c_backend.specs.declared.replies.Form.{Form}
use Rattle.vhost_c_backend.specs.declared.replies.Form.TheVariants as form
use Rattle.vhost_c_backend.specs.declared.replies.Reply.{Reply}
use Rattle.vhost_c_backend.specs.declared.replies.Reply.TheVariants as reply
use Rattle.vhost_c_backend.specs.declared.served.Served.{Served}
use Rattle.vhost_c_joined.specs.Device.{form_of, Says, replies, opens, is_want, halted, IsOpen, IsMet, Serves}
use Rattle.vhost_c_joined.specs.declared.wire.Halt.{Halt}
use Rattle.vhost_c_joined.specs.declared.wire.Halt.TheVariants as halt
use Rattle.vhost_c_joined.proofs.Channels.{a_channel, a_display}
use Rattle.vhost_c_joined.proofs.Lasting.{stop-want}

abbrev Row : Type 0
Row = Step PlainHandle Channel Display

-- ---- the form of a call

-- in which form what a step asks is replied to
abbrev asked_form : Row → Form
asked_form (Calls c next) = form_of c
asked_form _ = form.Done

-- a step with the one handle of a message, where there is exactly one
one : (P : Row → Type 0) (hs : List PlainHandle) (next : PlainHandle → Row) → Makes (with_one hs next) → ((h : PlainHandle) → P (next h)) → P (with_one hs next)
one P [] next makes p = absurd makes
one P (h ∷ []) next makes p = p h
one P (h ∷ k ∷ hs) next makes p = absurd makes

wanted : (P : Row → Type 0) (given : Bool) (hs : List PlainHandle) (next : Option PlainHandle → Row) → Makes (with_wanted given hs next) → ((h : Option PlainHandle) → P (next h)) → P (with_wanted given hs next)
wanted P true hs next makes p = one P hs (λ h. next (Some h)) makes (λ h. p (Some h))
wanted P false hs next makes p = p None

-- the form of a call of the device is that of the code's
step-form : (s : Session) (m : Request) (c : DeviceCall) → Makes (step_of {B = Channel} {G = Display} s m c) → asked_form (step_of s m c) ≡ form_in c
step-form s m (call.SetLogBase l) makes = one (λ x. asked_form x ≡ form.Done) m.handles _ makes (λ h. refl)
step-form s m (call.SetVringKick i given) makes = wanted (λ x. asked_form x ≡ form.Done) given m.handles _ makes (λ h. refl)
step-form s m (call.SetVringCall i given) makes = wanted (λ x. asked_form x ≡ form.Done) given m.handles _ makes (λ h. refl)
step-form s m (call.SetVringErr i given) makes = wanted (λ x. asked_form x ≡ form.Done) given m.handles _ makes (λ h. refl)
step-form s m call.SetBackendReqFd makes = one (λ x. asked_form x ≡ form.Done) m.handles _ makes (λ h. refl)
step-form s m call.SetGpuSocket makes = one (λ x. asked_form x ≡ form.Done) m.handles _ makes (λ h. refl)
step-form s m (call.SetInflightFd area) makes = one (λ x. asked_form x ≡ form.Done) m.handles _ makes (λ h. refl)
step-form s m (call.AddMemRegion r listens) makes = one (λ x. asked_form x ≡ form.Region listens) m.handles _ makes (λ h. refl)
step-form s m (call.SetDeviceStateFd direction phase) makes = one (λ x. asked_form x ≡ form.StateFd) m.handles _ makes (λ h. refl)
step-form s m _ makes = refl

-- ---- what follows from an answer

module _ (s : Session) (m : Request) (r : Reply) (b : Beside) (a : DeviceAnswer PlainHandle) (o : Outcome PlainHandle) where
  -- what follows by the code follows in the table
  abbrev IsFollowed : Row → Type 0
  IsFollowed x = FollowsFrom s b a x o → Follows (replies r) (opens r) (opens r) s tt x o tt

  called : (c : Call PlainHandle Channel Display) → Says (form_of c) r a → IsFollowed (calls s m c)
  called c says f = (answer_in b c a, (a, says, b, refl), f)

  -- a channel is opened where the answer agrees
  opened-backend : (h : PlainHandle) → Says form.Done r a → IsFollowed (OpensBackend h (λ opened. channel s m opened >>= (λ k. calls s m (device.SetBackendReqFd k))))
  opened-backend h says f = by (done_in a) refl
    where
      by : (x : Result ⊤ Error) → done_in a ≡ x → Follows (replies r) (opens r) (opens r) s tt (OpensBackend h (λ opened. channel s m opened >>= (λ k. calls s m (device.SetBackendReqFd k)))) o tt
      by (Ok u) is = (Ok a_channel, (a, says, sym is), called (device.SetBackendReqFd a_channel) says (f.0 a_channel is))
      by (Err e) is = (Err e, (a, says, sym is), (f.1 e is, refl))

  opened-gpu : (h : PlainHandle) → Says form.Done r a → IsFollowed (OpensGpu h (λ opened. channel s m opened >>= (λ k. calls s m (device.SetGpuSocket k))))
  opened-gpu h says f = by (done_in a) refl
    where
      by : (x : Result ⊤ Error) → done_in a ≡ x → Follows (replies r) (opens r) (opens r) s tt (OpensGpu h (λ opened. channel s m opened >>= (λ k. calls s m (device.SetGpuSocket k)))) o tt
      by (Ok u) is = (Ok a_display, (a, says, sym is), called (device.SetGpuSocket a_display) says (f.0 a_display))
      by (Err e) is = (Err e, (a, says, sym is), (f.1 e is, refl))

  step-followed : (c : DeviceCall) → Makes (step_of {B = Channel} {G = Display} s m c) → Says (form_in c) r a → IsFollowed (step_of s m c)
  step-followed (call.SetLogBase l) makes says = one IsFollowed m.handles _ makes (λ h. called (device.SetLogBase l h) says)
  step-followed (call.SetVringKick i given) makes says = wanted IsFollowed given m.handles _ makes (λ h. called (device.SetVringKick i h) says)
  step-followed (call.SetVringCall i given) makes says = wanted IsFollowed given m.handles _ makes (λ h. called (device.SetVringCall i h) says)
  step-followed (call.SetVringErr i given) makes says = wanted IsFollowed given m.handles _ makes (λ h. called (device.SetVringErr i h) says)
  step-followed call.SetBackendReqFd makes says = one IsFollowed m.handles _ makes (λ h. opened-backend h says)
  step-followed call.SetGpuSocket makes says = one IsFollowed m.handles _ makes (λ h. opened-gpu h says)
  step-followed (call.SetInflightFd area) makes says = one IsFollowed m.handles _ makes (λ h. called (device.SetInflightFd area h) says)
  step-followed (call.AddMemRegion region listens) makes says = one IsFollowed m.handles _ makes (λ h. called (device.AddMemRegion region h (Some listens)) says)
  step-followed (call.SetDeviceStateFd direction phase) makes says = one IsFollowed m.handles _ makes (λ h f. (_, (a, says, b, refl), f))
  step-followed _ makes says = λ f. (_, (a, says, b, refl), f)

  pub followed : (c : DeviceCall) → Makes (row s m) → serving.IsCall s m c → Says (form_in c) r a → FollowsFrom s b a (row s m) o → Follows (replies r) (opens r) (opens r) s tt (row s m) o tt
  followed c makes is says = subst {A = Row} IsFollowed (sym is) (step-followed c (subst {A = Row} (λ x. Makes x) is makes) says)

-- ---- one reply

-- an outcome of the code as an outcome for C
abbrev for_c : Result ⊤ declared.Error → Result ⊤ Refusal
for_c (Ok u) = Ok u
for_c (Err e) = Err (Protocol e)

-- goes on unless memory was refused
abbrev goes : Result ⊤ Refusal → Result ⊤ Halt
goes (Ok u) = Ok tt
goes (Err why) = halted (λ w. tt) why

pub unless : (m : Request) (r : Reply) (memory : Session) (new : Served) (why : Refusal) → (is_want why ≡ false → IsMet m r memory new) → Serves m r memory (halted (λ w. tt) why) new
unless m r memory new why met = by (is_want why) refl
  where
    by : (b : Bool) → is_want why ≡ b → Serves m r memory (halted (λ w. tt) why) new
    by true is = subst {A = Result ⊤ Halt} (λ h. Serves m r memory h new) (sym (ap (λ b. cond {A = Result ⊤ Halt} b (Err (halt.WantsMemory why)) (Ok tt)) is)) is
    by false is = subst {A = Result ⊤ Halt} (λ h. Serves m r memory h new) (sym (ap (λ b. cond {A = Result ⊤ Halt} b (Err (halt.WantsMemory why)) (Ok tt)) is)) (met is)

module _ (m : Request) (r : Reply) (old new : Served) (due : IsOpen m old) where
  concluded : (c : DeviceCall) (a : DeviceAnswer PlainHandle) (place : VhostUserShMemConfig) (result : Result ⊤ declared.Error) → IsCall (served.remembers old) m c → Says (form_in c) r a → Concludes m place a old new result → Rests old new
      → Serves m r (served.remembers old) (goes (for_c result)) new
  concluded c a place result is says (told rs o follows answer queue came memory sound own) rests = by result
    where
      makes : Makes (row (served.remembers old) m)
      makes = subst {A = Row} (λ x. Makes x) (sym due.read.read.prepares.row) due.read.read.prepares.makes

      met : IsMet m r (served.remembers old) new
      met = record {
        outcome = settled (served.remembers old) m o;
        meets = (o, followed (served.remembers old) m r (beside rs place) a o c makes is says follows, refl);
        memory = memory;
        queue = queue ∙ ap (λ cells. cells ++ reply_cells m.request (settled (served.remembers old) m o).served) due.queue;
        came = came ∙ due.came;
        idle = rests.idle;
        count = ap (λ i. i.count) rests.incoming ∙ due.count;
        sound = (sound.after, sound.uncut due.sound.1);
      }

      by : (x : Result ⊤ declared.Error) → Serves m r (served.remembers old) (goes (for_c x)) new
      by (Ok u) = met
      by (Err e) = unless m r (served.remembers old) new (Protocol e) (λ w. met)
  concluded c a place _ is says (stopped {e = e} rs o follows stops memory) rests =
      unless m r (served.remembers old) new (Protocol e) (λ isnt. absurd (cc (sym (stop-want (endpoint_of old.core) (endpoint_of new.core) (reply_cells m.request (settled (served.remembers old) m o).served) e stops due.sound.1) ∙ isnt)))

-- ---- the reply, or else a refusal

-- why a reply is no answer
not-said : (f : Form) (r : Reply) (why : Refusal) → is_want why ≡ false → Rejects f r why → (fits f r ≡ false) ⊎ IsBad r
not-said f r OtherCall isnt rejects = inl rejects
not-said f r (Protocol OutOfMemory) isnt rejects = absurd (cc isnt)
not-said f r (Protocol InvalidParam) isnt rejects = inr rejects.1
not-said f r (Protocol _) isnt rejects = absurd rejects
not-said f r _ isnt rejects = absurd rejects

always-fits : (f : Form) → fits f reply.Refused ≡ true
always-fits f = refl

-- a refusal is always an answer
said : (f : Form) (why : Refusal) → is_want why ≡ false → Rejects f reply.Refused why → ⊥
said f why isnt rejects = by (not-said f reply.Refused why isnt rejects)
  where
    by : (fits f reply.Refused ≡ false) ⊎ IsBad reply.Refused → ⊥
    by (inl unfit) = cc (sym (always-fits f) ∙ unfit)
    by (inr bad) = bad

-- the forms of a call are one
one-form : (s : Session) (m : Request) (c d : DeviceCall) → Makes (row s m) → IsCall s m c → IsCall s m d → form_in c ≡ form_in d
one-form s m c d makes is-c is-d = sym (form-of c is-c) ∙ form-of d is-d
  where
    form-of : (e : DeviceCall) → IsCall s m e → asked_form (row s m) ≡ form_in e
    form-of e is = ap {A = Row} asked_form is ∙ step-form s m e (subst {A = Row} (λ x. Makes x) is makes)

-- it was answered at once
pub first-ok : (m : Request) (r : Reply) (old new : Served) → IsOpen m old → Answering r old (Ok tt) new → IsMet m r (served.remembers old) new
first-ok m r old new due answers = by (answers.one m due.read)
  where
    by : Replying m (λ f a. Gives f r a) (λ f e. Rejects f r e) old.core.service.shmem old (Ok tt) new → IsMet m r (served.remembers old) new
    by (done d) = concluded m r old new due d.call d.answer old.core.service.shmem (Ok tt) d.makes (inl d.is_given) d.concludes d.rest

-- it was not, and is refused
module _ (m : Request) (r : Reply) (new : Served) (result : Result ⊤ Refusal) where
  refused : (old : Served) → IsOpen m old → (c : DeviceCall) (why : Refusal) → IsCall (served.remembers old) m c → is_want why ≡ false → Rejects (form_in c) r why → Answering reply.Refused old result new → Serves m r (served.remembers old) (goes result) new
  refused old due c why is isnt rejects answers = by result (answers.one m due.read)
    where
      makes : Makes (row (served.remembers old) m)
      makes = subst {A = Row} (λ x. Makes x) (sym due.read.read.prepares.row) due.read.read.prepares.makes

      says : (d : DeviceCall) (a : DeviceAnswer PlainHandle) → IsCall (served.remembers old) m d → Gives (form_in d) reply.Refused a → Says (form_in d) r a
      says d a is-d given = inr (subst {A = Form} (λ f. (fits f r ≡ false) ⊎ IsBad r) (one-form (served.remembers old) m c d makes is is-d) (not-said (form_in c) r why isnt rejects), given)

      by : (x : Result ⊤ Refusal) → Replying m (λ f a. Gives f reply.Refused a) (λ f e. Rejects f reply.Refused e) old.core.service.shmem old x new → Serves m r (served.remembers old) (goes x) new
      by _ (done d) = concluded m r old new due d.call d.answer old.core.service.shmem (Ok tt) d.makes (says d.call d.answer d.makes d.is_given) d.concludes d.rest
      by _ (failed {e = e} d) = concluded m r old new due d.call d.answer old.core.service.shmem (Err e) d.makes (says d.call d.answer d.makes d.is_given) d.concludes d.rest
      by _ (rejected {r = other} d) = unless m r (served.remembers old) new other (λ free. absurd (said (form_in d.call) other free d.is_rejected))

  -- whatever became of the first
  pub then-refused : (old mid : Served) (why : Refusal) → IsOpen m old → is_want why ≡ false → Answering r old (Err why) mid → Answering reply.Refused mid result new → Serves m r (served.remembers old) (goes result) new
  then-refused old mid why due isnt first second = by why isnt (first.one m due.read)
    where
      settled-so : IsMet m r (served.remembers old) mid → served.has_call mid ≡ false → Serves m r (served.remembers old) (goes result) new
      settled-so met idle =
          let none = second.none idle in
          subst {A = Result ⊤ Refusal} (λ x. Serves m r (served.remembers old) (goes x) new) (sym none.0) (subst {A = Served} (λ s. IsMet m r (served.remembers old) s) (sym none.1) met)

      by : (w : Refusal) → is_want w ≡ false → Replying m (λ f a. Gives f r a) (λ f e. Rejects f r e) old.core.service.shmem old (Err w) mid → Serves m r (served.remembers old) (goes result) new
      by _ free (failed {e = e} d) =
          settled-so (met-by (Protocol e) free (concluded m r old mid due d.call d.answer old.core.service.shmem (Err e) d.makes (inl d.is_given) d.concludes d.rest)) d.rest.idle
        where
          met-by : (x : Refusal) → is_want x ≡ false → Serves m r (served.remembers old) (halted (λ w. tt) x) mid → IsMet m r (served.remembers old) mid
          met-by x free serves = subst {A = Result ⊤ Halt} (λ h. Serves m r (served.remembers old) h mid) (ap (λ b. cond {A = Result ⊤ Halt} b (Err (halt.WantsMemory x)) (Ok tt)) free) serves
      by w free (rejected d) =
          subst {A = Served} (λ s. Serves m r (served.remembers s) (goes result) new) d.same
          (refused mid (subst {A = Served} (λ s. IsOpen m s) (sym d.same) due) d.call w (subst {A = Served} (λ s. IsCall (served.remembers s) m d.call) (sym d.same) d.makes) free d.is_rejected second)

-- it goes on, so memory was not refused
pub goes-on : (why : Refusal) (result : Result ⊤ Halt) (u : ⊤) → result ≡ halted (λ w. tt) why → result ≡ Ok u → is_want why ≡ false
goes-on why result u halts on = by (is_want why) refl
  where
    by : (b : Bool) → is_want why ≡ b → is_want why ≡ false
    by false is = is
    by true is = absurd (cc (sym on ∙ halts ∙ ap (λ b. cond {A = Result ⊤ Halt} b (Err (halt.WantsMemory why)) (Ok tt)) is))
