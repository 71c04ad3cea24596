-- Requests and calls of the code, as the definitions see them.
use Rattle.std.specs.Prelude.{◌≡◌, ℕ, Bool, true, false, List, [], ◌∷◌, length, Option, Some, None, Result, Ok, Err, Vec, if◌then◌else◌, ◌&&◌, ◌==◌, not, ⊤}
use Rattle.std.specs.Global.{Global}
use Rattle.vhost_message.specs.declared.heard_req.HeardReq.{HeardReq}
use Rattle.vhost_message.specs.declared.records.config.VhostUserConfig.{VhostUserConfig}
use Rattle.vhost_message.specs.declared.records.memory.VhostUserMemoryRegion.{VhostUserMemoryRegion}
use Rattle.vhost_message.specs.Records.{regions_of}
use Rattle.vhost_message.specs.Transfer.{direction_number, phase_number}
use Rattle.vhost_protocol.specs.Answered.{calls}
use Rattle.vhost_protocol.specs.DeviceCall as device
use Rattle.vhost_protocol.specs.DeviceCall.{Call}
use Rattle.vhost_protocol.specs.Error.{InvalidMessage, test}
use Rattle.vhost_protocol.specs.Row.{channel, row_of}
use Rattle.vhost_protocol.specs.Session.{Session}
use Rattle.vhost_protocol.specs.Split.{Message}
use Rattle.vhost_protocol.specs.Step as step
use Rattle.vhost_protocol.specs.Step.{Refusal, Step, ◌>>=◌, silently, acknowledged}
use Rattle.vhost_backend_req_handler_core.specs.Refusing.{refusal_in}
use Rattle.vhost_backend_req_handler_core.specs.Session.{session_of}
use Rattle.vhost_backend_req_handler_core.specs.declared.refusal.Refusal as declared
use Rattle.vhost_backend_req_handler_core.specs.declared.session.Session as code
use Rattle.vhost_backend_req_handler_core.specs.declared.incoming.Incoming.{Incoming}
use Rattle.vhost_backend_req_handler_core.specs.declared.call.Area.{Area}
use Rattle.vhost_backend_req_handler_core.specs.declared.call.RegionTable.{RegionTable}
use Rattle.vhost_backend_req_handler_core.specs.declared.call.DeviceCall.{DeviceCall}
use Rattle.vhost_backend_req_handler_core.specs.declared.call.DeviceCall.TheVariants as call
use Rattle.vhost_backend_req_handler_core.specs.declared.call.Begun.{Begun}
use Rattle.vhost_backend_req_handler_core.specs.declared.call.Begun.TheVariants as begun

-- ---- requests

-- the handles of a message
abbrev pub handles_in : {H : Type 0} → Option (Vec H Global) → List H
handles_in None = []
handles_in (Some v) = v.items

-- a message that was read, with these handles
abbrev pub message_in : {H : Type 0} → Incoming → List H → Message HeardReq H
message_in i hs = record { request = i.code; reply = i.reply; need_reply = i.need_reply; body = i.body.now; handles = hs }

-- a request by its parts
pub record IsRequest (r : HeardReq) (is_reply wants_reply : Bool) (bytes : List ℕ) (i : Incoming) : Type 0 where
  pub request : i.code ≡ r
  pub reply : i.reply ≡ is_reply
  pub need_reply : i.need_reply ≡ wants_reply
  pub body : i.body.now ≡ bytes

-- ---- tests

-- what a test of the code answered is that test of the table: it refuses in silence
abbrev pub tested : {A H : Type 0} → Result A declared.Refusal → Result A (Refusal H)
tested (Ok a) = Ok a
tested (Err e) = Err (silently (refusal_in e))

-- the test of a body's size
abbrev pub sized : {H : Type 0} → ℕ → Incoming → Result ⊤ (Refusal H)
sized size i = test (length i.body.now == size && not i.reply) (silently InvalidMessage)

-- the body is one valid record
abbrev pub body_of : {H A : Type 0} → ℕ → (List ℕ → A) → (A → Bool) → Incoming → Result A (Refusal H)
body_of size of is_valid i =
    if (length i.body.now == size && not i.reply) && is_valid (of i.body.now) then Ok (of i.body.now) else Err (silently InvalidMessage)

-- ---- calls

-- the regions of a table
abbrev pub regions_in : RegionTable → List VhostUserMemoryRegion
regions_in t = regions_of t.count t.bytes.now

-- the record of a part of configuration space
abbrev pub config_in : Area → VhostUserConfig
config_in a = a.config

-- the one handle of a message, where it has exactly one
abbrev pub single : {H : Type 0} → List H → Option H
single (h ∷ []) = Some h
single _ = None

-- what goes on with it; without it the request is refused
abbrev pub if_some : {H B G : Type 0} → Option H → (H → Step H B G) → Step H B G
if_some (Some h) next = next h
if_some None next = step.Refused (silently InvalidMessage)

abbrev pub with_one : {H B G : Type 0} → List H → (H → Step H B G) → Step H B G
with_one hs next = if_some (single hs) next

-- with a handle where the call wants one
abbrev pub with_wanted : {H B G : Type 0} → Bool → List H → (Option H → Step H B G) → Step H B G
with_wanted true hs next = with_one hs (λ h. next (Some h))
with_wanted false hs next = next None

-- A call of the code, with the handles of its message. A channel is opened first.
abbrev pub step_of : {H B G : Type 0} → Session → Message HeardReq H → DeviceCall → Step H B G
step_of s m call.SetOwner = calls s m device.SetOwner
step_of s m call.ResetOwner = calls s m device.ResetOwner
step_of s m call.ResetDevice = calls s m device.ResetDevice
step_of s m call.GetFeatures = calls s m device.GetFeatures
step_of s m (call.SetFeatures n) = calls s m (device.SetFeatures n)
step_of s m (call.SetMemTable table listens) = calls s m (device.SetMemTable (regions_in table) m.handles (Some listens))
step_of s m (call.SetLogBase l) = with_one m.handles (λ h. calls s m (device.SetLogBase l h))
step_of s m (call.SetVringNum i n) = calls s m (device.SetVringNum i n)
step_of s m (call.SetVringBase i n) = calls s m (device.SetVringBase i n)
step_of s m (call.SetVringAddr v) = calls s m (device.SetVringAddr v)
step_of s m (call.GetVringBase i) = calls s m (device.GetVringBase i)
step_of s m (call.SetVringKick i wants) = with_wanted wants m.handles (λ h. calls s m (device.SetVringKick i h))
step_of s m (call.SetVringCall i wants) = with_wanted wants m.handles (λ h. calls s m (device.SetVringCall i h))
step_of s m (call.SetVringErr i wants) = with_wanted wants m.handles (λ h. calls s m (device.SetVringErr i h))
step_of s m call.GetProtocolFeatures = calls s m device.GetProtocolFeatures
step_of s m (call.SetProtocolFeatures n) = calls s m (device.SetProtocolFeatures n)
step_of s m call.GetQueueNum = calls s m device.GetQueueNum
step_of s m call.GetMaxMemSlots = calls s m device.GetMaxMemSlots
step_of s m (call.SetVringEnable i on) = calls s m (device.SetVringEnable i on)
step_of s m (call.SetMtu n) = calls s m (device.SetMtu n)
step_of s m (call.GetConfig a) = calls s m (device.GetConfig a.config.offset a.config.size a.config.flags)
step_of s m (call.SetConfig a bytes) = calls s m (device.SetConfig a.config.offset bytes.now a.config.flags)
step_of s m call.SetBackendReqFd = with_one m.handles (λ h. step.OpensBackend h (λ opened. channel s m opened >>= (λ b. calls s m (device.SetBackendReqFd b))))
step_of s m call.SetGpuSocket = with_one m.handles (λ h. step.OpensGpu h (λ opened. channel s m opened >>= (λ g. calls s m (device.SetGpuSocket g))))
step_of s m (call.GetSharedObject name) = calls s m (device.GetSharedObject name)
step_of s m (call.GetInflightFd area) = calls s m (device.GetInflightFd area)
step_of s m (call.SetInflightFd area) = with_one m.handles (λ h. calls s m (device.SetInflightFd area h))
step_of s m (call.AddMemRegion r listens) = with_one m.handles (λ h. calls s m (device.AddMemRegion r h (Some listens)))
step_of s m (call.RemoveMemRegion r) = calls s m (device.RemoveMemRegion r)
step_of s m (call.SetDeviceStateFd direction phase) = with_one m.handles (λ h. calls s m (device.SetDeviceStateFd (record { direction = direction_number direction; phase = phase_number phase }) h))
step_of s m call.CheckDeviceState = calls s m device.CheckDeviceState
step_of s m call.GetShmemConfig = calls s m device.GetShmemConfig
step_of s m call.PostcopyAdvice = calls s m device.PostcopyAdvice
step_of s m call.PostcopyListen = calls s m device.PostcopyListen
step_of s m call.PostcopyEnd = calls s m device.PostcopyEnd
step_of s m call.PostcopyAckMemRegions = calls s m device.PostcopyAckMemRegions
step_of s m (call.Other request body) = calls s m (device.Other request body.now m.handles)

-- what a request became is this step of the table
abbrev pub step_in : {H B G : Type 0} → Session → Message HeardReq H → Result Begun declared.Refusal → Step H B G
step_in s m (Ok (begun.Calls c)) = step_of s m c
step_in s m (Ok (begun.Refuses e)) = step.Refused (acknowledged s m (refusal_in e))
step_in s m (Err e) = step.Refused (silently (refusal_in e))

-- what a request of this code became is its row
abbrev pub Begins : {H : Type 0} → (B G : Type 0) → HeardReq → code.Session → Incoming → List H → Result Begun declared.Refusal → Type 0
Begins B G r s i hs result = step_in {B = B} {G = G} (session_of s) (message_in i hs) result ≡ row_of r (session_of s) (message_in i hs)
