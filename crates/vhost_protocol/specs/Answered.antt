-- What follows from a device's answer, by the call that it answers ("Front-end message types").
use Rattle.std.specs.Prelude.{ℕ, ◌^◌, true, List, [], ◌∷◌, length, Option, Some, None, Result, Ok, Err, if◌then◌else◌, ◌==◌, bit_or, ⊤}
use Rattle.vhost_message.specs.declared.heard_req.HeardReq.{HeardReq}
use Rattle.vhost_message.specs.declared.postcopy.PostcopyState.{PostcopyState}
use Rattle.vhost_message.specs.declared.postcopy.PostcopyState.TheVariants.{Advise, Listen, End}
use Rattle.vhost_message.specs.declared.records.config.VhostUserConfig.{VhostUserConfig}
use Rattle.vhost_message.specs.declared.records.inflight.VhostUserInflight.{VhostUserInflight}
use Rattle.vhost_message.specs.declared.records.memory.VhostUserMemoryRegion.{VhostUserMemoryRegion}
use Rattle.vhost_message.specs.declared.records.memory.VhostUserSingleMemoryRegion.{VhostUserSingleMemoryRegion}
use Rattle.vhost_protocol.specs.DeviceCall.{Call, Answer, SetOwner, ResetOwner, ResetDevice, GetFeatures, SetFeatures, SetMemTable, SetVringNum, SetVringAddr, SetVringBase, GetVringBase, SetVringKick, SetVringCall, SetVringErr, GetProtocolFeatures, SetProtocolFeatures, GetQueueNum, SetVringEnable, GetConfig, SetConfig, SetBackendReqFd, SetGpuSocket, GetSharedObject, GetInflightFd, SetInflightFd, GetMaxMemSlots, AddMemRegion, RemoveMemRegion, SetDeviceStateFd, CheckDeviceState, GetShmemConfig, PostcopyAdvice, PostcopyListen, PostcopyEnd, PostcopyAckMemRegions, SetLogBase, SetMtu, Other}
use Rattle.vhost_protocol.specs.Error.{Error, BackendInternalError}
use Rattle.vhost_protocol.specs.Features.{REPLY_ACK}
use Rattle.vhost_protocol.specs.Session.{Session}
use Rattle.vhost_protocol.specs.Split.{Message}
use Rattle.vhost_protocol.specs.Step.{Outcome, Step, Calls, with_ack, failed_with, replied, replied_or_silent, unwritten}
use Rattle.vhost_protocol.specs.Written.{Empty, U64, Regions, OneRegion, Shmem, RingState, ConfigBytes, InflightArea, LogArea}

-- ---- regions

-- the regions, each with the base that the device gave it
abbrev pub rebased : List VhostUserMemoryRegion → List ℕ → List VhostUserMemoryRegion
rebased (r ∷ rs) (base ∷ bases) = record r { user_addr = base } ∷ rebased rs bases
rebased _ _ = []

-- while listening the bases are the reply, one for each region
abbrev pub with_bases : {H : Type 0} → Session → Message HeardReq H → List VhostUserMemoryRegion → Result (Option (List ℕ)) Error → Outcome H
with_bases s m regions (Ok (Some bases)) =
    if length bases == length regions then replied s (Regions (rebased regions bases)) [] else failed_with s m BackendInternalError
with_bases s m regions (Ok None) = failed_with s m BackendInternalError
with_bases s m regions (Err e) = failed_with s m e

-- the region with the base that the device gave it
abbrev pub rebased_region : VhostUserSingleMemoryRegion → ℕ → VhostUserSingleMemoryRegion
rebased_region r base = record { padding = 0; region = record (r.region) { user_addr = base } }

-- while listening the base is the reply
abbrev pub with_base : {H : Type 0} → Session → Message HeardReq H → VhostUserSingleMemoryRegion → Result (Option ℕ) Error → Outcome H
with_base s m r (Ok (Some base)) = replied s (OneRegion (rebased_region r base)) []
with_base s m r (Ok None) = failed_with s m BackendInternalError
with_base s m r (Err e) = failed_with s m e

-- ---- other answers

-- the configuration bytes, or the same record with size 0 and none ("Device configuration space")
abbrev pub with_config : {H : Type 0} → Session → VhostUserConfig → Result (List ℕ) Error → Outcome H
with_config s c (Ok bytes) =
    if length bytes == c.size then replied s (ConfigBytes c bytes) [] else replied s (ConfigBytes (record c { size = 0 }) []) []
with_config s c (Err e) = replied s (ConfigBytes (record c { size = 0 }) []) []

-- a reply with the handle, or without where there is none
abbrev pub with_handle : {H : Type 0} → Session → Result H Error → Outcome H
with_handle s (Ok h) = replied s Empty (h ∷ [])
with_handle s (Err e) = replied s Empty []

-- the buffer with its handle, or nothing
abbrev pub with_inflight : {H : Type 0} → Session → Result (VhostUserInflight × H) Error → Outcome H
with_inflight s (Ok answer) = replied s (InflightArea answer.0) (answer.1 ∷ [])
with_inflight s (Err e) = unwritten {A = ⊤} s (Err e)

-- 0 with the handle, 0x100 for none, 0x101 for an error ("Migrating backend state")
abbrev pub with_state : {H : Type 0} → Session → Result (Option H) Error → Outcome H
with_state s (Ok (Some h)) = replied s (U64 0) (h ∷ [])
with_state s (Ok None) = replied s (U64 0x100) []
with_state s (Err e) = replied s (U64 0x101) []

-- 0, or 1 for an error
abbrev pub with_check : {H : Type 0} → Session → Result ⊤ Error → Outcome H
with_check s (Ok u) = replied s (U64 0) []
with_check s (Err e) = replied s (U64 1) []

-- the offered features are remembered once they are sent
abbrev pub with_features : {H : Type 0} → Session → Result ℕ Error → Outcome H
with_features s (Ok n) = replied (record s { offered = n }) (U64 n) []
with_features s (Err e) = unwritten {A = ⊤} s (Err e)

-- postcopy goes on where the device agreed
abbrev pub if_agreed : {A : Type 0} → Session → PostcopyState → Result A Error → Session
if_agreed s next (Ok a) = record s { postcopy = next }
if_agreed s next (Err e) = s

-- ---- the table

-- what follows from the answer to each call
abbrev pub answered : {H B G : Type 0} → Session → Message HeardReq H → (c : Call H B G) → Answer c → Outcome H
answered s m SetOwner = with_ack s m
answered s m ResetOwner = with_ack s m
answered s m ResetDevice = with_ack s m
answered s m GetFeatures = with_features s
-- they are stored also where the device fails
answered s m (SetFeatures features) = with_ack (record s { acked = features }) m
answered s m (SetMemTable regions handles (Some true)) = with_bases s m regions
answered s m (SetMemTable regions handles postcopy) = with_ack s m
answered s m (SetVringNum index num) = with_ack s m
answered s m (SetVringAddr ring) = with_ack s m
answered s m (SetVringBase index base) = with_ack s m
answered s m (GetVringBase index) = replied_or_silent s RingState
answered s m (SetVringKick index handle) = with_ack s m
answered s m (SetVringCall index handle) = with_ack s m
answered s m (SetVringErr index handle) = with_ack s m
answered s m GetProtocolFeatures = replied_or_silent s (λ n. U64 (bit_or n (2 ^ REPLY_ACK)))
-- they are stored also where the device fails
answered s m (SetProtocolFeatures features) = with_ack (record s { acked_protocol_features = features }) m
answered s m GetQueueNum = replied_or_silent s U64
answered s m (SetVringEnable index on) = with_ack s m
answered s m (GetConfig offset size flags) = with_config s (record { offset = offset; size = size; flags = flags })
answered s m (SetConfig offset bytes flags) = with_ack s m
answered s m (SetBackendReqFd channel) = λ u. with_ack {A = ⊤} s m (Ok u)
answered s m (SetGpuSocket channel) = with_ack s m
answered s m (GetSharedObject name) = with_handle s
answered s m (GetInflightFd area) = with_inflight s
answered s m (SetInflightFd area handle) = with_ack s m
answered s m GetMaxMemSlots = replied_or_silent s U64
answered s m (AddMemRegion region handle (Some true)) = with_base s m region
answered s m (AddMemRegion region handle postcopy) = with_ack s m
answered s m (RemoveMemRegion region) = with_ack s m
answered s m (SetDeviceStateFd transfer handle) = with_state s
answered s m CheckDeviceState = with_check s
answered s m GetShmemConfig = replied_or_silent s Shmem
answered s m PostcopyAdvice = λ answer. with_handle (if_agreed s Advise answer) answer
answered s m PostcopyListen = λ answer. with_ack (if_agreed s Listen answer) m answer
-- postcopy has ended also where the device fails
answered s m PostcopyEnd = with_ack (record s { postcopy = End }) m
answered s m PostcopyAckMemRegions = unwritten s
answered s m (SetLogBase log handle) = replied_or_silent s (λ u. LogArea log)
answered s m (SetMtu mtu) = with_ack s m
answered s m (Other request body handles) = with_ack s m

-- the device is called, and its answer followed
abbrev pub calls : {H B G : Type 0} → Session → Message HeardReq H → Call H B G → Step H B G
calls s m c = Calls c (answered s m c)
