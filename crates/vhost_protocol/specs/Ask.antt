-- What a call of the frontend sends, and what it then waits for ("Front-end message types").
use Rattle.std.specs.Prelude.{ℕ, ◌+◌, ◌^◌, Bool, true, false, not, ◌&&◌, List, [], ◌∷◌, length, map, Option, Some, None, Result, Ok, Err, is_some, if◌then◌else◌, ◌==◌, nat_le, nat_lt, bit_and, ⊤}
use Rattle.std.specs.List.{list_all, filter_map}
use Rattle.vhost_message.specs.declared.limits.TheConstants.{MAX_MEM_REGIONS, MAX_MSG_SIZE}
use Rattle.vhost_message.specs.Bits.{has_bit}
use Rattle.vhost_message.specs.declared.heard_req.HeardReq.{HeardReq}
use Rattle.vhost_message.specs.declared.heard_req.HeardReq.TheVariants.{GET_FEATURES, SET_FEATURES, SET_OWNER, RESET_OWNER, SET_MEM_TABLE, SET_LOG_BASE, SET_LOG_FD, SET_VRING_NUM, SET_VRING_ADDR, SET_VRING_BASE, GET_VRING_BASE, SET_VRING_KICK, SET_VRING_CALL, SET_VRING_ERR, GET_PROTOCOL_FEATURES, SET_PROTOCOL_FEATURES, GET_QUEUE_NUM, SET_VRING_ENABLE, NET_SET_MTU, SET_BACKEND_REQ_FD, GET_CONFIG, SET_CONFIG, POSTCOPY_ADVISE, POSTCOPY_LISTEN, POSTCOPY_END, GET_INFLIGHT_FD, SET_INFLIGHT_FD, RESET_DEVICE, GET_MAX_MEM_SLOTS, ADD_MEM_REG, REM_MEM_REG, GET_SHARED_OBJECT, SET_DEVICE_STATE_FD, CHECK_DEVICE_STATE, GET_SHMEM_CONFIG}
use Rattle.vhost_message.specs.declared.records.config.VhostUserConfig.{VhostUserConfig}
use Rattle.vhost_message.specs.declared.records.inflight.VhostUserInflight.{VhostUserInflight}
use Rattle.vhost_message.specs.declared.records.log.VhostUserLog.{VhostUserLog}
use Rattle.vhost_message.specs.declared.records.memory.VhostUserMemoryRegion.{VhostUserMemoryRegion}
use Rattle.vhost_message.specs.declared.records.vring.VhostUserVringState.{VhostUserVringState}
use Rattle.vhost_message.specs.VringConfig.{ring_addr}
use Rattle.vhost_message.specs.Records.{single_region}
use Rattle.vhost_message.specs.Valid.{is_valid_config, is_valid_inflight, is_valid_uuid}
use Rattle.vhost_protocol.specs.declared.asked.Awaited.{Awaited}
use Rattle.vhost_protocol.specs.declared.asked.Awaited.TheVariants.{Nobody, Ack, Reply}
use Rattle.vhost_protocol.specs.declared.asked.Shape.{Shape}
use Rattle.vhost_protocol.specs.declared.asked.Shape.TheVariants as shape
use Rattle.vhost_protocol.specs.Error.{Error, InvalidParam, InactiveFeature, InactiveOperation, test}
use Rattle.vhost_protocol.specs.Features.{PROTOCOL_FEATURES, MQ, LOG_SHMFD, REPLY_ACK, MTU, BACKEND_REQ, PAGEFAULT, CONFIG, INFLIGHT_SHMFD, RESETS_DEVICE, CONFIGURE_MEM_SLOTS, SHARED_OBJECT, DEVICE_STATE, SHMEM}
use Rattle.vhost_protocol.specs.FrontendCall.{Info, LogRegion, FrontendCall, GetFeatures, SetFeatures, SetOwner, ResetOwner, GetProtocolFeatures, SetProtocolFeatures, GetQueueNum, ResetDevice, SetMemTable, SetLogBase, SetLogFd, SetVringNum, SetVringBase, SetVringAddr, GetVringBase, SetVringCall, SetVringKick, SetVringErr, SetVringEnable, GetConfig, SetConfig, SetBackendRequestFd, GetSharedObject, GetInflightFd, SetInflightFd, GetMaxMemSlots, AddMemRegion, RemoveMemRegion, GetShmemConfig, SetDeviceStateFd, CheckDeviceState, PostcopyAdvise, PostcopyListen, PostcopyEnd, PostcopyAckMemRegions, SetMtu, SetHdrFlags, Value, Nothing, Frontend}
use Rattle.vhost_protocol.specs.Profile.{is_standard}
use Rattle.vhost_protocol.specs.Session.{is_listen}
use Rattle.vhost_protocol.specs.Written.{Payload, Empty, U64, Regions, OneRegion, RingState, RingAddr, ConfigBytes, InflightArea, LogArea, ObjectName, DeviceState, Written}

-- what becomes of a call: a refusal, an answer without a message, or a message, what is awaited, and the new session
pub data Asked (H : Type 0) : Type 0 where
  Refuses : Error → Asked H
  Answers : Value H → Frontend → Asked H
  Sends : Written HeardReq H → Awaited → Frontend → Asked H

-- ---- tests, in order

infixl 10 ◌>>◌ ◌>>=◌
-- a test, then the rest
abbrev pub ◌>>◌ : {H : Type 0} → Result ⊤ Error → Asked H → Asked H
(Ok u) >> next = next
(Err e) >> next = Refuses e

-- a test that gives a value, then the rest with it
abbrev pub ◌>>=◌ : {H A : Type 0} → Result A Error → (A → Asked H) → Asked H
(Ok a) >>= next = next a
(Err e) >>= next = Refuses e

-- a test of the arguments
abbrev pub param : Bool → Result ⊤ Error
param holds = test holds InvalidParam

-- a protocol feature is acknowledged
abbrev pub frontend_feature : Frontend → ℕ → Result ⊤ Error
frontend_feature f feature = test (has_bit f.acked_protocol_features feature) (InactiveOperation (2 ^ feature))

-- protocol features are among these features ("Feature negotiation")
abbrev pub protocol_in : ℕ → Result ⊤ Error
protocol_in features = test (has_bit features PROTOCOL_FEATURES) (InactiveFeature (2 ^ PROTOCOL_FEATURES))

-- a ring's index, which a message has in 32 bits
abbrev pub index : Frontend → ℕ → Result ⊤ Error
index f i = param (nat_lt i f.max_queue_num && nat_lt i (2 ^ 32))

-- beside a handle, or where there could be one, an index has eight bits
abbrev pub small_index : Frontend → ℕ → Result ⊤ Error
small_index f i = param (nat_lt i f.max_queue_num && nat_le i 255)

-- an argument that has to be there
abbrev pub given : {A : Type 0} → Option A → Result A Error
given None = Err InvalidParam
given (Some a) = Ok a

-- under Standard there is room for the bytes that are asked for: an answer comes whatever there is
abbrev pub has_room : Frontend → List ℕ → Bool
has_room f buffer = if is_standard f.profile then nat_le 1 (length buffer) else true

-- under Standard an inflight region is asked for some queues: a refusal names them again, and one of none is no valid record
abbrev pub has_queues : Frontend → VhostUserInflight → Bool
has_queues f i = if is_standard f.profile then is_valid_inflight i else true

-- ---- messages

-- whether a message goes out with the session's flag NEED_REPLY; under Standard only where REPLY_ACK is acknowledged, since real handlers acknowledge it all the same
abbrev pub needs_reply : Frontend → Bool
needs_reply f = has_bit f.header_flags 3 && (if is_standard f.profile then has_bit f.acked_protocol_features REPLY_ACK else true)

-- a message with the session's flags REPLY and NEED_REPLY
abbrev pub message : {H : Type 0} → Frontend → HeardReq → Payload → List H → Written HeardReq H
message f r payload handles = record { request = r; reply = has_bit f.header_flags 2; need_reply = needs_reply f; payload = payload; handles = handles }

-- the same without NEED_REPLY
abbrev pub unacknowledged : {H : Type 0} → Frontend → HeardReq → Payload → List H → Written HeardReq H
unacknowledged f r payload handles = record (message f r payload handles) { need_reply = false }

-- acknowledgements are on, and the header asks for one
abbrev pub awaited_ack : Frontend → Awaited
awaited_ack f = if has_bit f.acked_protocol_features REPLY_ACK && has_bit f.header_flags 3 then Ack else Nobody

-- sent, and perhaps acknowledged
abbrev pub sends : {H : Type 0} → Frontend → HeardReq → Payload → List H → Asked H
sends f r payload handles = Sends (message f r payload handles) (awaited_ack f) f

-- the base of the log alone; under Standard its acknowledgement is awaited like that of every request
abbrev pub sends_base : {H : Type 0} → Frontend → (base : ℕ) → Asked H
sends_base f base = Sends (message f SET_LOG_BASE (U64 base) []) (if is_standard f.profile then awaited_ack f else Nobody) f

-- sent, and replied to
abbrev pub asks : {H : Type 0} → Frontend → HeardReq → Payload → List H → Shape → Asked H
asks f r payload handles shape = Sends (message f r payload handles) (Reply shape) f

-- sent without NEED_REPLY, and replied to
abbrev pub asks_unacknowledged : {H : Type 0} → Frontend → HeardReq → Payload → List H → Shape → Asked H
asks_unacknowledged f r payload handles shape = Sends (unacknowledged f r payload handles) (Reply shape) f

-- A message that turns the state of both sides. Under Standard it asks for its acknowledgement wherever that was negotiated, whatever the header flags: a refusal that nobody hears would leave the sides apart.
abbrev pub turning : {H : Type 0} → Frontend → HeardReq → Written HeardReq H
turning f r = record (message f r Empty []) { need_reply = if is_standard f.profile then has_bit f.acked_protocol_features REPLY_ACK else needs_reply f }

-- and what is awaited of it
abbrev pub awaited_turn : Frontend → Awaited
awaited_turn f = if is_standard f.profile then (if has_bit f.acked_protocol_features REPLY_ACK then Ack else Nobody) else awaited_ack f

-- ---- arguments

-- the regions alone
abbrev pub regions_in : {H : Type 0} → List (Info H) → List VhostUserMemoryRegion
regions_in infos = map (λ info. info.region) infos

-- all handles, where each region has one
abbrev pub handles_in : {H : Type 0} → List (Info H) → List H
handles_in infos = filter_map (λ info. info.handle) infos

-- a region that is not empty and has a handle
abbrev pub is_usable : {H : Type 0} → Info H → Bool
is_usable info = not (info.region.memory_size == 0) && is_some info.handle

-- a number for a ring
abbrev pub ring_state : ℕ → ℕ → VhostUserVringState
ring_state i n = record { index = i; num = n }

-- the number of a ring beside its handle; bit 8 says that there is none
abbrev pub ring_number : {H : Type 0} → ℕ → Option H → ℕ
ring_number i None = i + 256
ring_number i (Some h) = i

-- the handle that is given, if any
abbrev pub given_handle : {H : Type 0} → Option H → List H
given_handle None = []
given_handle (Some h) = h ∷ []

-- a part of configuration space
abbrev pub config : ℕ → ℕ → ℕ → VhostUserConfig
config offset size flags = record { offset = offset; size = size; flags = flags }

-- the area of the dirty log
abbrev pub log_area : {H : Type 0} → LogRegion H → VhostUserLog
log_area r = record { mmap_size = r.mmap_size; mmap_offset = r.mmap_offset }

-- the two requests whose regions are mapped while listening
abbrev pub is_mapping : HeardReq → Bool
is_mapping SET_MEM_TABLE = true
is_mapping ADD_MEM_REG = true
is_mapping _ = false

-- ---- the calls

-- what a call becomes
abbrev pub ask : {H : Type 0} → Frontend → FrontendCall H → Asked H
ask f GetFeatures = asks f GET_FEATURES Empty [] shape.U64
ask f (SetFeatures n) = sends (record f { acked = bit_and n f.offered }) SET_FEATURES (U64 n) []
ask f SetOwner = sends f SET_OWNER Empty []
ask f ResetOwner = sends f RESET_OWNER Empty []
ask f GetProtocolFeatures = do
  protocol_in f.offered
  asks f GET_PROTOCOL_FEATURES Empty [] shape.U64
ask f (SetProtocolFeatures n) = do
  protocol_in f.offered
  sends (record f { acked_protocol_features = n }) SET_PROTOCOL_FEATURES (U64 n) []
ask f GetQueueNum = do
  frontend_feature f MQ
  asks f GET_QUEUE_NUM Empty [] shape.U64
ask f ResetDevice = do
  frontend_feature f RESETS_DEVICE
  sends f RESET_DEVICE Empty []
ask f (SetMemTable infos) = do
  param (nat_le 1 (length infos) && nat_le (length infos) MAX_MEM_REGIONS && list_all is_usable infos)
  (if is_listen f.postcopy
      then asks_unacknowledged f SET_MEM_TABLE (Regions (regions_in infos)) (handles_in infos) shape.Memory
      else sends f SET_MEM_TABLE (Regions (regions_in infos)) (handles_in infos))
ask f (SetLogBase base None) = sends_base f base
ask f (SetLogBase base (Some r)) =
    if has_bit f.acked_protocol_features LOG_SHMFD then (do
      h ← given r.handle
      asks f SET_LOG_BASE (LogArea (log_area r)) (h ∷ []) shape.Log)
    else sends_base f base
ask f (SetLogFd h) = sends f SET_LOG_FD Empty (h ∷ [])
ask f (SetVringNum i n) = do
  index f i
  sends f SET_VRING_NUM (RingState (ring_state i n)) []
ask f (SetVringBase i n) = do
  index f i
  sends f SET_VRING_BASE (RingState (ring_state i n)) []
ask f (SetVringAddr i c) = do
  index f i
  param (nat_le c.flags 1)
  sends f SET_VRING_ADDR (RingAddr (ring_addr i c)) []
ask f (GetVringBase i) = do
  index f i
  asks f GET_VRING_BASE (RingState (ring_state i 0)) [] shape.VringState
ask f (SetVringCall i h) = do
  small_index f i
  sends f SET_VRING_CALL (U64 (ring_number i h)) (given_handle h)
ask f (SetVringKick i h) = do
  small_index f i
  sends f SET_VRING_KICK (U64 (ring_number i h)) (given_handle h)
ask f (SetVringErr i h) = do
  small_index f i
  sends f SET_VRING_ERR (U64 (ring_number i h)) (given_handle h)
ask f (SetVringEnable i on) = do
  protocol_in f.acked
  index f i
  sends f SET_VRING_ENABLE (RingState (ring_state i (if on then 1 else 0))) []
ask f (GetConfig offset size flags buffer) = do
  param (is_valid_config (config offset size flags) && has_room f buffer)
  frontend_feature f CONFIG
  param (nat_le (12 + length buffer) MAX_MSG_SIZE)
  asks f GET_CONFIG (ConfigBytes (config offset size flags) buffer) [] shape.Config
ask f (SetConfig offset flags buffer) = do
  param (nat_le (length buffer) MAX_MSG_SIZE)
  param (is_valid_config (config offset (length buffer) flags))
  frontend_feature f CONFIG
  param (nat_le (12 + length buffer) MAX_MSG_SIZE)
  sends f SET_CONFIG (ConfigBytes (config offset (length buffer) flags) buffer) []
ask f (SetBackendRequestFd h) = do
  frontend_feature f BACKEND_REQ
  sends f SET_BACKEND_REQ_FD Empty (h ∷ [])
ask f (GetSharedObject name) = do
  frontend_feature f SHARED_OBJECT
  param (is_valid_uuid name.uuid)
  asks f GET_SHARED_OBJECT (ObjectName name) [] shape.Empty
ask f (GetInflightFd i) = do
  frontend_feature f INFLIGHT_SHMFD
  param (has_queues f i)
  asks f GET_INFLIGHT_FD (InflightArea i) [] shape.Inflight
ask f (SetInflightFd i h) = do
  frontend_feature f INFLIGHT_SHMFD
  param (not (i.mmap_size == 0) && not (i.num_queues == 0) && not (i.queue_size == 0))
  sends f SET_INFLIGHT_FD (InflightArea i) (h ∷ [])
ask f GetMaxMemSlots = do
  frontend_feature f CONFIGURE_MEM_SLOTS
  asks f GET_MAX_MEM_SLOTS Empty [] shape.U64
ask f (AddMemRegion info) = do
  frontend_feature f CONFIGURE_MEM_SLOTS
  param (not (info.region.memory_size == 0))
  h ← given info.handle
  (if is_listen f.postcopy
      then asks_unacknowledged f ADD_MEM_REG (OneRegion (single_region info.region)) (h ∷ []) shape.SingleMemoryRegion
      else sends f ADD_MEM_REG (OneRegion (single_region info.region)) (h ∷ []))
ask f (RemoveMemRegion info) = do
  frontend_feature f CONFIGURE_MEM_SLOTS
  param (not (info.region.memory_size == 0))
  sends f REM_MEM_REG (OneRegion (single_region info.region)) []
ask f GetShmemConfig = do
  frontend_feature f SHMEM
  asks f GET_SHMEM_CONFIG Empty [] shape.ShMemConfig
ask f (SetDeviceStateFd t h) = do
  frontend_feature f DEVICE_STATE
  asks f SET_DEVICE_STATE_FD (DeviceState t) (h ∷ []) shape.U64
ask f CheckDeviceState = do
  frontend_feature f DEVICE_STATE
  asks f CHECK_DEVICE_STATE Empty [] shape.U64
ask f PostcopyAdvise = do
  frontend_feature f PAGEFAULT
  asks f POSTCOPY_ADVISE Empty [] shape.Empty
ask f PostcopyListen = do
  frontend_feature f PAGEFAULT
  Sends (turning f POSTCOPY_LISTEN) (awaited_turn f) f
ask f PostcopyEnd = do
  frontend_feature f PAGEFAULT
  -- the specification gives it a reply
  Sends (turning f POSTCOPY_END) (if is_standard f.profile then Reply shape.U64 else awaited_ack f) f
ask f (PostcopyAckMemRegions r) = do
  param (is_mapping r)
  Sends (unacknowledged f r (U64 0) []) Nobody f
ask f (SetMtu mtu) = do
  frontend_feature f MTU
  sends f NET_SET_MTU (U64 mtu) []
ask f (SetHdrFlags flags) = Answers Nothing (record f { header_flags = flags })
