-- Answers of a device, and what becomes of them, as the definitions see them.
use Rattle.std.specs.Prelude.{◌≡◌, ◌^◌, ℕ, Bool, true, false, List, [], ◌∷◌, length, take, if◌then◌else◌, ◌==◌, Option, Some, None, Result, Ok, Err, Vec, bit_or, ⊤}
use Rattle.vhost_message.specs.declared.error.Error as declared
use Rattle.vhost_message.specs.declared.heard_req.HeardReq.{HeardReq}
use Rattle.vhost_message.specs.declared.heard_req.HeardReq.TheVariants.{GET_FEATURES}
use Rattle.vhost_message.specs.declared.postcopy.PostcopyState.TheVariants.{Advise, Listen, End}
use Rattle.vhost_message.specs.declared.records.inflight.VhostUserInflight.{VhostUserInflight}
use Rattle.vhost_message.specs.declared.records.memory.VhostUserMemoryRegion.{VhostUserMemoryRegion}
use Rattle.vhost_message.specs.declared.records.shmem.VhostUserShMemConfig.{VhostUserShMemConfig}
use Rattle.vhost_message.specs.declared.records.vring.VhostUserVringState.{VhostUserVringState}
use Rattle.vhost_protocol.specs.Answered.{rebased, with_base, with_config, with_handle, with_inflight, with_state, with_check, if_agreed}
use Rattle.vhost_protocol.specs.DeviceCall as device
use Rattle.vhost_protocol.specs.DeviceCall.{Call, Answer}
use Rattle.vhost_protocol.specs.Error.{Error, BackendInternalError, seen, seen_result}
use Rattle.vhost_protocol.specs.Features.{REPLY_ACK}
use Rattle.vhost_protocol.specs.Served as served
use Rattle.vhost_protocol.specs.Served.{Served}
use Rattle.vhost_protocol.specs.Session.{Session}
use Rattle.vhost_protocol.specs.Split.{Message}
use Rattle.vhost_protocol.specs.Step.{Outcome, Step, Refused, Calls, OpensBackend, OpensGpu, done, failed_with, replied, with_ack, replied_or_silent, unwritten}
use Rattle.vhost_protocol.specs.Written as payload
use Rattle.vhost_protocol.specs.Written.{Payload}
use Rattle.vhost_backend_req_handler_core.specs.Beginning.{regions_in, step_of}
use Rattle.vhost_backend_req_handler_core.specs.declared.answer.DeviceAnswer.{DeviceAnswer}
use Rattle.vhost_backend_req_handler_core.specs.declared.answer.DeviceAnswer.TheVariants as answer
use Rattle.vhost_backend_req_handler_core.specs.declared.answer.Then.{Then}
use Rattle.vhost_backend_req_handler_core.specs.declared.answer.Then.TheVariants as then_
use Rattle.vhost_backend_req_handler_core.specs.declared.answer.Reply.{Reply}
use Rattle.vhost_backend_req_handler_core.specs.declared.answer.Reply.TheVariants as reply
use Rattle.vhost_backend_req_handler_core.specs.declared.answer.Told.{Told}
use Rattle.vhost_backend_req_handler_core.specs.declared.answer.Told.TheVariants as told
use Rattle.vhost_backend_req_handler_core.specs.declared.answer.Verdict.{Verdict}
use Rattle.vhost_backend_req_handler_core.specs.declared.answer.Verdict.TheVariants as verdict
use Rattle.vhost_backend_req_handler_core.specs.declared.answer.Conclusion.{Conclusion}
use Rattle.vhost_backend_req_handler_core.specs.declared.call.DeviceCall.{DeviceCall}
use Rattle.vhost_backend_req_handler_core.specs.declared.call.DeviceCall.TheVariants as call

-- ---- answers

-- where regions are mapped
abbrev pub seen_bases : {A : Type 0} → Result (Option (Vec ℕ A)) declared.Error → Result (Option (List ℕ)) Error
seen_bases (Ok (Some bases)) = Ok (Some bases.items)
seen_bases (Ok None) = Ok None
seen_bases (Err e) = Err (seen e)

-- bytes
abbrev pub seen_bytes : {A : Type 0} → Result (Vec ℕ A) declared.Error → Result (List ℕ) Error
seen_bytes (Ok bytes) = Ok bytes.items
seen_bytes (Err e) = Err (seen e)

-- What lies beside a call and its answer: the regions of the table that came with it, and the place for the regions of
-- shared memory.
pub record Beside : Type 0 where
  pub regions : List VhostUserMemoryRegion
  pub shmem : VhostUserShMemConfig

-- An answer of each kind. One of another kind is an error of the backend.

abbrev pub done_in : {H : Type 0} → DeviceAnswer H → Result ⊤ Error
done_in (answer.Done r) = seen_result r
done_in _ = Err BackendInternalError

abbrev pub number_in : {H : Type 0} → DeviceAnswer H → Result ℕ Error
number_in (answer.Number r) = seen_result r
number_in _ = Err BackendInternalError

abbrev pub bases_in : {H : Type 0} → DeviceAnswer H → Result (Option (List ℕ)) Error
bases_in (answer.Bases r) = seen_bases r
bases_in _ = Err BackendInternalError

abbrev pub base_in : {H : Type 0} → DeviceAnswer H → Result (Option ℕ) Error
base_in (answer.Base r) = seen_result r
base_in _ = Err BackendInternalError

abbrev pub ring_state_in : {H : Type 0} → DeviceAnswer H → Result VhostUserVringState Error
ring_state_in (answer.RingState r) = seen_result r
ring_state_in _ = Err BackendInternalError

abbrev pub bytes_in : {H : Type 0} → DeviceAnswer H → Result (List ℕ) Error
bytes_in (answer.Bytes r) = seen_bytes r
bytes_in _ = Err BackendInternalError

abbrev pub handle_in : {H : Type 0} → DeviceAnswer H → Result H Error
handle_in (answer.Handle r) = seen_result r
handle_in _ = Err BackendInternalError

abbrev pub inflight_in : {H : Type 0} → DeviceAnswer H → Result (VhostUserInflight × H) Error
inflight_in (answer.Inflight r) = seen_result r
inflight_in _ = Err BackendInternalError

abbrev pub state_handle_in : {H : Type 0} → DeviceAnswer H → Result (Option H) Error
state_handle_in (answer.StateHandle r) = seen_result r
state_handle_in _ = Err BackendInternalError

abbrev pub shmem_in : {H : Type 0} → Beside → DeviceAnswer H → Result VhostUserShMemConfig Error
shmem_in b (answer.Shmem (Ok u)) = Ok b.shmem
shmem_in b (answer.Shmem (Err e)) = Err (seen e)
shmem_in b _ = Err BackendInternalError

-- an answer without its value
abbrev pub device_in : {H : Type 0} → DeviceAnswer H → Result ⊤ Error
device_in (answer.Done r) = seen_result r
device_in (answer.Number r) = done (seen_result r)
device_in (answer.Bases r) = done (seen_bases r)
device_in (answer.Base r) = done (seen_result r)
device_in (answer.RingState r) = done (seen_result r)
device_in (answer.Bytes r) = done (seen_bytes r)
device_in (answer.Handle r) = done (seen_result r)
device_in (answer.Inflight r) = done (seen_result r)
device_in (answer.StateHandle r) = done (seen_result r)
device_in (answer.Shmem r) = seen_result r

-- ---- what an answer becomes

-- the body of a reply
abbrev pub payload_in : Beside → Reply → Payload
payload_in b reply.Empty = payload.Empty
payload_in b (reply.U64 n) = payload.U64 n
payload_in b (reply.OneRegion r) = payload.OneRegion r
payload_in b (reply.RingState v) = payload.RingState v
payload_in b (reply.Config c) = payload.ConfigBytes c []
payload_in b (reply.ConfigBytes r) = payload.ConfigBytes r.area.config r.bytes.now
payload_in b (reply.InflightArea i) = payload.InflightArea i
payload_in b (reply.LogArea l) = payload.LogArea l
payload_in b reply.Shmem = payload.Shmem b.shmem
payload_in b (reply.Regions bases) = payload.Regions (rebased b.regions bases.now)

-- what the peer is told
abbrev pub served_in : {H : Type 0} → Beside → Told H → Served H
served_in b told.Silent = served.Silent
served_in b (told.Acknowledged agreed) = served.Acknowledged agreed
served_in b (told.Replied r) = served.Replied (payload_in b r) []
served_in b (told.RepliedWith r h) = served.Replied (payload_in b r) (h.now ∷ [])

-- what the session answers
abbrev pub verdict_in : {H : Type 0} → DeviceAnswer H → Verdict → Result ⊤ Error
verdict_in d verdict.Fine = Ok tt
verdict_in d verdict.Device = device_in d
verdict_in d verdict.Internal = Err BackendInternalError

-- what a call became, where this is the session from then on
abbrev pub outcome_in : {H : Type 0} → Session → Beside → DeviceAnswer H → Conclusion H → Outcome H
outcome_in s b d c = record { answer = verdict_in d c.verdict; served = served_in b c.told; session = s }

-- an acknowledgement, where acknowledgements are on and it is wanted
abbrev pub told_if : {H : Type 0} → (on wanted agreed : Bool) → Told H
told_if true true agreed = told.Acknowledged agreed
told_if _ _ agreed = told.Silent

-- any message that wants an acknowledgement, or does not: nothing else of a request makes a difference to its answer
abbrev pub wanting : {H : Type 0} → Bool → Message HeardReq H
wanting need_reply = record { request = GET_FEATURES; reply = false; need_reply = need_reply; body = []; handles = [] }

-- the number is remembered as offered, where there is one
abbrev pub if_offered : Session → Result ℕ Error → Session
if_offered s (Ok n) = record s { offered = n }
if_offered s (Err e) = s

-- the bases are the reply, one for each of so many regions
abbrev pub with_counted : {H : Type 0} → Session → Message HeardReq H → List VhostUserMemoryRegion → ℕ → Result (Option (List ℕ)) Error → Outcome H
with_counted s m regions count (Ok (Some bases)) =
    if length bases == count then replied s (payload.Regions (rebased regions bases)) [] else failed_with s m BackendInternalError
with_counted s m regions count (Ok None) = failed_with s m BackendInternalError
with_counted s m regions count (Err e) = failed_with s m e

-- what the session remembers of an answer, however that is reported
abbrev pub remembered : {H : Type 0} → Session → Then → DeviceAnswer H → Session
remembered s (then_.AckFeatures n) d = record s { acked = n }
remembered s (then_.AckProtocolFeatures n) d = record s { acked_protocol_features = n }
remembered s then_.AckListen d = if_agreed s Listen (done_in d)
remembered s then_.AckEnd d = record s { postcopy = End }
remembered s then_.Offers d = if_offered s (number_in d)
remembered s then_.HandleAdvise d = if_agreed s Advise (handle_in d)
remembered s _ d = s

-- how an answer is reported, by the session that remembers what it has to
abbrev pub reported : {H : Type 0} → Session → Bool → Beside → Then → DeviceAnswer H → Outcome H
reported s need b then_.Ack d = with_ack s (wanting need) (done_in d)
reported s need b then_.AckTable d = with_ack s (wanting need) (bases_in d)
reported s need b then_.AckRegion d = with_ack s (wanting need) (base_in d)
reported s need b (then_.AckFeatures n) d = with_ack s (wanting need) (done_in d)
reported s need b (then_.AckProtocolFeatures n) d = with_ack s (wanting need) (done_in d)
reported s need b then_.AckListen d = with_ack s (wanting need) (done_in d)
reported s need b then_.AckEnd d = with_ack s (wanting need) (done_in d)
reported s need b then_.Offers d = replied_or_silent s payload.U64 (number_in d)
reported s need b then_.OffersProtocol d = replied_or_silent s (λ n. payload.U64 (bit_or n (2 ^ REPLY_ACK))) (number_in d)
reported s need b then_.Number d = replied_or_silent s payload.U64 (number_in d)
reported s need b then_.RingState d = replied_or_silent s payload.RingState (ring_state_in d)
reported s need b (then_.Config a) d = with_config s a.config (bytes_in d)
reported s need b then_.Handle d = with_handle s (handle_in d)
reported s need b then_.HandleAdvise d = with_handle s (handle_in d)
reported s need b then_.Inflight d = with_inflight s (inflight_in d)
reported s need b then_.StateHandle d = with_state s (state_handle_in d)
reported s need b then_.Check d = with_check s (done_in d)
reported s need b then_.Shmem d = replied_or_silent s payload.Shmem (shmem_in b d)
reported s need b (then_.Log l) d = replied_or_silent s (λ u. payload.LogArea l) (done_in d)
reported s need b (then_.Base r) d = with_base s (wanting need) r (base_in d)
reported s need b (then_.Bases n) d = with_counted s (wanting need) b.regions n (bases_in d)
reported s need b then_.Unwritten d = unwritten s (done_in d)

-- what follows from an answer
abbrev pub concluded : {H : Type 0} → Session → Bool → Beside → Then → DeviceAnswer H → Outcome H
concluded s need b t d = reported (remembered s t d) need b t d

-- ---- the same as the definitions

-- how the answer of a call is told
abbrev pub then_of : DeviceCall → Then
then_of call.GetFeatures = then_.Offers
then_of (call.SetFeatures n) = then_.AckFeatures n
then_of (call.SetMemTable table true) = then_.Bases table.count
then_of (call.SetMemTable table false) = then_.AckTable
then_of (call.SetLogBase l) = then_.Log l
then_of (call.GetVringBase i) = then_.RingState
then_of call.GetProtocolFeatures = then_.OffersProtocol
then_of (call.SetProtocolFeatures n) = then_.AckProtocolFeatures n
then_of call.GetQueueNum = then_.Number
then_of call.GetMaxMemSlots = then_.Number
then_of (call.GetConfig a) = then_.Config a
then_of (call.GetSharedObject name) = then_.Handle
then_of (call.GetInflightFd area) = then_.Inflight
then_of (call.AddMemRegion r true) = then_.Base r
then_of (call.AddMemRegion r false) = then_.AckRegion
then_of (call.SetDeviceStateFd direction phase) = then_.StateHandle
then_of call.CheckDeviceState = then_.Check
then_of call.GetShmemConfig = then_.Shmem
then_of call.PostcopyAdvice = then_.HandleAdvise
then_of call.PostcopyListen = then_.AckListen
then_of call.PostcopyEnd = then_.AckEnd
then_of call.PostcopyAckMemRegions = then_.Unwritten
then_of _ = then_.Ack

-- the regions that lie beside a call: those whose bases are the reply
abbrev pub regions_beside : DeviceCall → List VhostUserMemoryRegion
regions_beside (call.SetMemTable table true) = regions_in table
regions_beside _ = []

-- the same of a place whose first ones they are
abbrev pub regions_for : Then → List VhostUserMemoryRegion → List VhostUserMemoryRegion
regions_for (then_.Bases count) regions = take count regions
regions_for _ regions = []

-- what the code's answer says of a call
abbrev pub answer_in : {H B G : Type 0} → Beside → (c : Call H B G) → DeviceAnswer H → Answer c
answer_in b device.GetFeatures d = number_in d
answer_in b (device.SetMemTable regions handles postcopy) d = bases_in d
answer_in b (device.GetVringBase i) d = ring_state_in d
answer_in b device.GetProtocolFeatures d = number_in d
answer_in b device.GetQueueNum d = number_in d
answer_in b (device.GetConfig offset size flags) d = bytes_in d
answer_in b (device.SetBackendReqFd channel) d = tt
answer_in b (device.GetSharedObject name) d = handle_in d
answer_in b (device.GetInflightFd area) d = inflight_in d
answer_in b device.GetMaxMemSlots d = number_in d
answer_in b (device.AddMemRegion r h postcopy) d = base_in d
answer_in b (device.SetDeviceStateFd t h) d = state_handle_in d
answer_in b device.GetShmemConfig d = shmem_in b d
answer_in b device.PostcopyAdvice d = handle_in d
answer_in b device.SetOwner d = done_in d
answer_in b device.ResetOwner d = done_in d
answer_in b device.ResetDevice d = done_in d
answer_in b (device.SetFeatures n) d = done_in d
answer_in b (device.SetVringNum i n) d = done_in d
answer_in b (device.SetVringAddr v) d = done_in d
answer_in b (device.SetVringBase i n) d = done_in d
answer_in b (device.SetVringKick i h) d = done_in d
answer_in b (device.SetVringCall i h) d = done_in d
answer_in b (device.SetVringErr i h) d = done_in d
answer_in b (device.SetProtocolFeatures n) d = done_in d
answer_in b (device.SetVringEnable i on) d = done_in d
answer_in b (device.SetConfig offset bytes flags) d = done_in d
answer_in b (device.SetGpuSocket channel) d = done_in d
answer_in b (device.SetInflightFd area h) d = done_in d
answer_in b (device.RemoveMemRegion r) d = done_in d
answer_in b device.CheckDeviceState d = done_in d
answer_in b device.PostcopyListen d = done_in d
answer_in b device.PostcopyEnd d = done_in d
answer_in b device.PostcopyAckMemRegions d = done_in d
answer_in b (device.SetLogBase l h) d = done_in d
answer_in b (device.SetMtu n) d = done_in d
answer_in b (device.Other request body handles) d = done_in d

-- a refusal has this outcome
abbrev pub IsRefused : {H B G : Type 0} → Session → Step H B G → Outcome H → Type 0
IsRefused s (Refused r) o = o ≡ record { answer = Err r.error; served = r.served; session = s }
IsRefused s _ o = ⊥

-- Where a step calls the device, this is what follows from the answer. Where it opens a channel first, the answer also says
-- whether that could be opened; else the request is refused.
abbrev pub FollowsFrom : {H B G : Type 0} → Session → Beside → DeviceAnswer H → Step H B G → Outcome H → Type 0
FollowsFrom s b d (Refused r) o = ⊤
FollowsFrom s b d (Calls c next) o = o ≡ next (answer_in b c d)
FollowsFrom {B = B} s b d (OpensBackend h next) o =
    ((channel : B) → done_in d ≡ Ok tt → FollowsFrom s b d (next (Ok channel)) o) × ((e : Error) → done_in d ≡ Err e → IsRefused s (next (Err e)) o)
FollowsFrom {G = G} s b d (OpensGpu h next) o =
    ((channel : G) → FollowsFrom s b d (next (Ok channel)) o) × ((e : Error) → done_in d ≡ Err e → IsRefused s (next (Err e)) o)

-- The second half is that of the definitions.
abbrev pub ConcludesRow : (H B G : Type 0) → Type 0
ConcludesRow H B G = (s : Session) (m : Message HeardReq H) (c : DeviceCall) (b : Beside) (d : DeviceAnswer H) → b.regions ≡ regions_beside c
    → FollowsFrom s b d (step_of {B = B} {G = G} s m c) (concluded s m.need_reply b (then_of c) d)
