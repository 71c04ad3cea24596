-- A backend's session alone: a device answers the request that came by a reply.
use Rattle.std.specs.Prelude.{◌≡◌, ◌⊎◌, ◌<◌, ◌^◌, pos, int_lt, All, Bool, true, false, [], Some, None, Result, Ok, Err, ⊤, if◌then◌else◌}
use Rattle.vhost_message.specs.declared.error.Error.TheVariants.{OutOfMemory, SocketRetry}
use Rattle.vhost_message.specs.RecordLaws.{InflightFits}
use Rattle.vhost_protocol.specs.DeviceCall as device
use Rattle.vhost_protocol.specs.DeviceCall.{Call, Answer}
use Rattle.vhost_protocol.specs.Error.{Error}
use Rattle.vhost_protocol.specs.Codes.{allows_handles}
use Rattle.vhost_protocol.specs.Handler.{Meets}
use Rattle.vhost_protocol.specs.Session.{heard_in}
use Rattle.vhost_protocol.specs.Session.{Session as Memory}
use Rattle.vhost_protocol.specs.Split.{split}
use Rattle.vhost_protocol.specs.Step.{Outcome, done}
use Rattle.vhost_link.specs.declared.plain.PlainHandle.{PlainHandle}
use Rattle.vhost_backend_req_handler_core.specs.Concluding.{Beside, answer_in, done_in}
use Rattle.vhost_backend_req_handler_core.specs.declared.answer.DeviceAnswer.{DeviceAnswer}
use Rattle.vhost_backend_req_handler.specs.Core as core
use Rattle.vhost_backend_req_handler.specs.Serving.{reply_cells}
use Rattle.vhost_c_common.specs.Records.{inflight_in}
use Rattle.vhost_c_common.specs.declared.refusal.Refusal.{Refusal}
use Rattle.vhost_c_common.specs.declared.refusal.Refusal.TheVariants.{Protocol}
use Rattle.vhost_c_backend.specs.Replies.{fits, Gives, IsBad}
use Rattle.vhost_c_backend.specs.Served as served
use Rattle.vhost_c_backend.specs.Serving.{Channel, Display, Request, IsServed}
use Rattle.vhost_c_backend.specs.declared.replies.Form.{Form}
use Rattle.vhost_c_backend.specs.declared.replies.Form.TheVariants as form
use Rattle.vhost_c_backend.specs.declared.replies.Reply.{Reply}
use Rattle.vhost_c_backend.specs.declared.replies.Reply.TheVariants as reply
use Rattle.vhost_c_backend.specs.declared.served.Served.{Served}
use Rattle.vhost_c_joined.specs.declared.wire.Halt.{Halt}
use Rattle.vhost_c_joined.specs.declared.wire.Halt.TheVariants as halt

-- ---- the device

-- in which form a call is replied to
abbrev pub form_of : Call PlainHandle Channel Display → Form
form_of device.GetFeatures = form.Number
form_of device.GetProtocolFeatures = form.Number
form_of device.GetQueueNum = form.Number
form_of device.GetMaxMemSlots = form.Number
form_of (device.SetMemTable regions handles (Some listens)) = form.Table listens
form_of (device.AddMemRegion region handle (Some listens)) = form.Region listens
form_of (device.GetVringBase index) = form.Ring
form_of (device.GetConfig offset size flags) = form.Config
form_of (device.GetSharedObject name) = form.Fd
form_of device.PostcopyAdvice = form.Fd
form_of (device.SetDeviceStateFd transfer handle) = form.StateFd
form_of (device.GetInflightFd area) = form.Inflight
form_of device.GetShmemConfig = form.Shmem
form_of _ = form.Done

-- What a reply answers to a call of this form. Where it has another form, or an argument that is not allowed, it is a refusal.
abbrev pub Says : Form → Reply → DeviceAnswer PlainHandle → Type 0
Says f r x = Gives f r x ⊎ (((fits f r ≡ false) ⊎ IsBad r) × Gives f reply.Refused x)

-- A device that answers any call by this reply.
abbrev pub replies : Reply → ⊤ → (c : Call PlainHandle Channel Display) → Answer c → ⊤ → Type 0
replies r d c a d' = (x : DeviceAnswer PlainHandle) × Says (form_of c) r x × (b : Beside) × (a ≡ answer_in b c x)

-- the numbers of a reply have the bits of their types
abbrev pub IsSized : Reply → Type 0
IsSized (reply.Number n) = n < 2 ^ 64
IsSized (reply.Ring index n) = (index < 2 ^ 32) × (n < 2 ^ 32)
IsSized (reply.Bases bases) = All (λ base. base < 2 ^ 64) bases.now
IsSized (reply.Fd fd) = int_lt fd (pos (2 ^ 31)) ≡ true
IsSized (reply.Inflight area fd) = InflightFits (inflight_in area) × (int_lt fd (pos (2 ^ 31)) ≡ true)
IsSized _ = ⊤

-- Its caller opens the channel of a descriptor: it is open where the reply agrees, and else not, for the error that the reply gives.
abbrev pub opens : {C : Type 0} → Reply → PlainHandle → Result C Error → Type 0
opens r h opened = (x : DeviceAnswer PlainHandle) × Says form.Done r x × (done opened ≡ done_in x)

-- ---- memory was refused

-- it is why
abbrev pub is_want : Refusal → Bool
is_want (Protocol OutOfMemory) = true
is_want (Protocol (SocketRetry c)) = true
is_want _ = false

-- an outcome that is no answer where memory was refused
abbrev pub halted : {A : Type 0} → (Refusal → A) → Refusal → Result A Halt
halted answers why = if is_want why then Err (halt.WantsMemory why) else Ok (answers why)

-- ---- the session

-- Exactly this message came, with its descriptors, and nothing is to be sent; nothing broke the session, and it has not ended.
pub record IsDue (m : Request) (s : Served) : Type 0 where
  pub came : split (heard_in (served.remembers s)) allows_handles (served.arrived s) ≡ (Ok m, [])
  pub whole : served.missing_of s ≡ 0
  pub idle : served.has_call s ≡ false
  pub goes_on : (served.remembers s).failed ≡ None
  pub queue : served.queued s ≡ []
  pub sound : ((core.endpoint_of s.core).broken ≡ None) × ((core.endpoint_of s.core).link.script ≡ [])

-- It was read, and its call is to be answered.
pub record IsOpen (m : Request) (s : Served) : Type 0 where
  pub read : IsServed m s
  pub came : served.arrived s ≡ []
  pub count : s.incoming.count ≡ 0
  pub queue : served.queued s ≡ []
  pub sound : ((core.endpoint_of s.core).broken ≡ None) × ((core.endpoint_of s.core).link.script ≡ [])

-- It met its row, by a device that answers by this reply; what became of it is to be sent, and nothing waits.
pub record IsMet (m : Request) (r : Reply) (before : Memory) (new : Served) : Type 0 where
  pub outcome : Outcome PlainHandle
  pub meets : Meets (replies r) (opens r) (opens r) before tt m outcome tt
  pub memory : served.remembers new ≡ outcome.session
  pub queue : served.queued new ≡ reply_cells m.request outcome.served
  pub came : served.arrived new ≡ []
  pub idle : served.has_call new ≡ false
  pub count : new.incoming.count ≡ 0
  pub sound : ((core.endpoint_of new.core).broken ≡ None) × ((core.endpoint_of new.core).link.script ≡ [])

-- it did; or memory was refused
abbrev pub Serves : Request → Reply → Memory → Result ⊤ Halt → Served → Type 0
Serves m r before (Ok done) new = IsMet m r before new
Serves m r before (Err (halt.WantsMemory why)) new = is_want why ≡ true
Serves m r before (Err _) new = ⊥
