-- What a device replies, by the form of its call.
use Rattle.std.specs.Prelude.{◌≡◌, ◌<◌, ℕ, Bool, true, false, not, List, [], ◌∷◌, length, Option, Some, None, Result, Ok, Err, ⊤}
use Rattle.vhost_message.specs.declared.error.Error.TheVariants.{BackendInternalError, OutOfMemory, InvalidParam}
use Rattle.vhost_link.specs.declared.plain.PlainHandle.{PlainHandle}
use Rattle.vhost_backend_req_handler_core.specs.Concluding.{bases_in, bytes_in}
use Rattle.vhost_backend_req_handler_core.specs.declared.answer.DeviceAnswer.{DeviceAnswer}
use Rattle.vhost_backend_req_handler_core.specs.declared.answer.DeviceAnswer.TheVariants as answer
use Rattle.vhost_backend_req_handler_core.specs.declared.call.DeviceCall.{DeviceCall}
use Rattle.vhost_backend_req_handler_core.specs.declared.call.DeviceCall.TheVariants as call
use Rattle.vhost_c_common.specs.Records.{handle_in, inflight_in}
use Rattle.vhost_c_common.specs.declared.refusal.Refusal.{Refusal}
use Rattle.vhost_c_common.specs.declared.refusal.Refusal.TheVariants.{Protocol, OtherCall}
use Rattle.vhost_c_backend.specs.declared.replies.Form.{Form}
use Rattle.vhost_c_backend.specs.declared.replies.Form.TheVariants as form
use Rattle.vhost_c_backend.specs.declared.replies.Reply.{Reply}
use Rattle.vhost_c_backend.specs.declared.replies.Reply.TheVariants as reply

-- the form of a call
abbrev pub form_in : DeviceCall → Form
form_in call.GetFeatures = form.Number
form_in call.GetProtocolFeatures = form.Number
form_in call.GetQueueNum = form.Number
form_in call.GetMaxMemSlots = form.Number
form_in (call.SetMemTable table listens) = form.Table listens
form_in (call.AddMemRegion r listens) = form.Region listens
form_in (call.GetVringBase i) = form.Ring
form_in (call.GetConfig a) = form.Config
form_in (call.GetSharedObject name) = form.Fd
form_in call.PostcopyAdvice = form.Fd
form_in (call.SetDeviceStateFd direction phase) = form.StateFd
form_in (call.GetInflightFd area) = form.Inflight
form_in call.GetShmemConfig = form.Shmem
form_in _ = form.Done

-- whether a call of this form is replied to so
abbrev pub fits : Form → Reply → Bool
fits f reply.Refused = true
fits form.Done reply.Done = true
fits (form.Table listens) reply.Done = not listens
fits (form.Region listens) reply.Done = not listens
fits form.Number (reply.Number n) = true
fits form.Ring (reply.Ring i n) = true
fits (form.Table listens) (reply.Bases bs) = listens
fits (form.Region listens) (reply.Bases bs) = listens
fits form.Config (reply.Config bs) = true
fits form.Fd (reply.Fd fd) = true
fits form.StateFd (reply.Fd fd) = true
fits form.Inflight (reply.Inflight i fd) = true
fits f r = false

-- the one of a list that has exactly one
abbrev pub only : {A : Type 0} → List A → Option A
only (a ∷ []) = Some a
only xs = None

-- the device's answer that a reply gives to a call of this form
abbrev pub Gives : Form → Reply → DeviceAnswer PlainHandle → Type 0
Gives f reply.Refused a = a ≡ answer.Done (Err BackendInternalError)
Gives form.Done reply.Done a = a ≡ answer.Done (Ok tt)
Gives (form.Table false) reply.Done a = a ≡ answer.Bases (Ok None)
Gives (form.Region false) reply.Done a = a ≡ answer.Base (Ok None)
Gives form.Number (reply.Number n) a = a ≡ answer.Number (Ok n)
Gives form.Ring (reply.Ring i n) a = a ≡ answer.RingState (Ok (record { index = i; num = n }))
Gives (form.Table true) (reply.Bases bs) a = bases_in a ≡ Ok (Some bs.now)
Gives (form.Region true) (reply.Bases bs) a = a ≡ answer.Base (Ok (only bs.now))
Gives form.Config (reply.Config bs) a = bytes_in a ≡ Ok bs.now
Gives form.Fd (reply.Fd fd) a = (h : PlainHandle) × (handle_in fd ≡ Some h) × (a ≡ answer.Handle (Ok h))
Gives form.StateFd (reply.Fd fd) a = a ≡ answer.StateHandle (Ok (handle_in fd))
Gives form.Inflight (reply.Inflight i fd) a = (h : PlainHandle) × (handle_in fd ≡ Some h) × (a ≡ answer.Inflight (Ok (inflight_in i, h)))
Gives f r a = ⊥

-- an argument that is not allowed: too many bytes, or a descriptor that is none
abbrev pub IsBad : Reply → Type 0
IsBad (reply.Config bs) = 4084 < length bs.now
IsBad (reply.Fd fd) = handle_in fd ≡ None
IsBad (reply.Inflight i fd) = handle_in fd ≡ None
IsBad r = ⊥

-- a reply whose list is copied, which wants memory
abbrev pub IsCopied : Reply → Type 0
IsCopied (reply.Bases bs) = ⊤
IsCopied (reply.Config bs) = ⊤
IsCopied r = ⊥

-- why a reply gives no answer
abbrev pub Rejects : Form → Reply → Refusal → Type 0
Rejects f r OtherCall = fits f r ≡ false
Rejects f r (Protocol OutOfMemory) = (fits f r ≡ true) × IsCopied r
Rejects f r (Protocol InvalidParam) = (fits f r ≡ true) × IsBad r
Rejects f r _ = ⊥

-- one of the two
abbrev pub AnswersBy : Form → Reply → Result (DeviceAnswer PlainHandle) Refusal → Type 0
AnswersBy f r (Ok a) = Gives f r a
AnswersBy f r (Err e) = Rejects f r e

-- The sizes of shared memory are so many, in their place, and are the answer to a call of this form.
abbrev pub GivesShmem : Form → DeviceAnswer PlainHandle → Type 0
GivesShmem f a = (f ≡ form.Shmem) × (a ≡ answer.Shmem (Ok tt))

-- why they are none
abbrev pub RejectsShmem : List ℕ → Form → Refusal → Type 0
RejectsShmem sizes f OtherCall = ¬ (f ≡ form.Shmem)
RejectsShmem sizes f (Protocol InvalidParam) = (f ≡ form.Shmem) × ¬ (length sizes ≡ 256)
RejectsShmem sizes f _ = ⊥
