-- The protocol table: what a handler does with each request ("Front-end message types"): its tests, and then one call of the device. What
-- follows from the device's answer is in `Answered`.
use Rattle.std.specs.Prelude.{ℕ, ◌+◌, ◌*◌, ◌%◌, ◌^◌, Bool, true, false, not, ◌&&◌, List, [], ◌∷◌, drop, length, Option, Some, None, Result, Ok, Err, if◌then◌else◌, ◌==◌, nat_le, codes, ⊤}
use Rattle.std.specs.List.{list_all}
use Rattle.vhost_message.specs.declared.limits.TheConstants.{MEMORY_HEAD_SIZE, MEMORY_REGION_SIZE}
use Rattle.vhost_message.specs.Bits.{has_bit}
use Rattle.vhost_message.specs.declared.heard_req.HeardReq.{HeardReq}
use Rattle.vhost_message.specs.declared.heard_req.HeardReq.TheVariants.{GET_FEATURES, SET_FEATURES, SET_OWNER, RESET_OWNER, SET_MEM_TABLE, SET_LOG_BASE, SET_VRING_NUM, SET_VRING_ADDR, SET_VRING_BASE, GET_VRING_BASE, SET_VRING_KICK, SET_VRING_CALL, SET_VRING_ERR, GET_PROTOCOL_FEATURES, SET_PROTOCOL_FEATURES, GET_QUEUE_NUM, SET_VRING_ENABLE, NET_SET_MTU, SET_BACKEND_REQ_FD, GET_CONFIG, SET_CONFIG, POSTCOPY_ADVISE, POSTCOPY_LISTEN, POSTCOPY_END, GET_INFLIGHT_FD, SET_INFLIGHT_FD, GPU_SET_SOCKET, RESET_DEVICE, GET_MAX_MEM_SLOTS, ADD_MEM_REG, REM_MEM_REG, GET_SHARED_OBJECT, SET_DEVICE_STATE_FD, CHECK_DEVICE_STATE, GET_SHMEM_CONFIG}
use Rattle.vhost_message.specs.HeardReq.{request_number}
use Rattle.vhost_message.specs.declared.records.memory.VhostUserMemoryRegion.{VhostUserMemoryRegion}
use Rattle.vhost_message.specs.declared.records.shared.VhostUserSharedMsg.{VhostUserSharedMsg}
use Rattle.vhost_message.specs.Records.{u64_at, memory_of, regions_of, single_region_of, vring_state_of, vring_addr_of, config_of, inflight_of, log_of, transfer_of}
use Rattle.vhost_message.specs.Valid.{is_valid_region, is_valid_memory, is_valid_vring_addr, is_valid_config, is_valid_inflight, is_valid_log, is_valid_uuid, is_valid_transfer}
use Rattle.vhost_protocol.specs.Answered.{calls}
use Rattle.vhost_protocol.specs.DeviceCall.{SetOwner, ResetOwner, ResetDevice, GetFeatures, SetFeatures, SetMemTable, SetVringNum, SetVringAddr, SetVringBase, GetVringBase, SetVringKick, SetVringCall, SetVringErr, GetProtocolFeatures, SetProtocolFeatures, GetQueueNum, SetVringEnable, GetConfig, SetConfig, SetBackendReqFd, SetGpuSocket, GetSharedObject, GetInflightFd, SetInflightFd, GetMaxMemSlots, AddMemRegion, RemoveMemRegion, SetDeviceStateFd, CheckDeviceState, GetShmemConfig, PostcopyAdvice, PostcopyListen, PostcopyEnd, PostcopyAckMemRegions, SetLogBase, SetMtu, Other}
use Rattle.vhost_protocol.specs.Error.{Error, InvalidParam, InvalidOperation, InactiveFeature, InactiveOperation, InvalidMessage, IncorrectFds, FrontendInternalError}
use Rattle.vhost_protocol.specs.Features.{PROTOCOL_FEATURES, MQ, LOG_SHMFD, MTU, BACKEND_REQ, PAGEFAULT, CONFIG, INFLIGHT_SHMFD, RESETS_DEVICE, CONFIGURE_MEM_SLOTS, SHARED_OBJECT, SHMEM}
use Rattle.vhost_protocol.specs.Profile.{is_standard}
use Rattle.vhost_protocol.specs.Session.{Session, is_inactive, is_advise, is_listen, enabling}
use Rattle.vhost_protocol.specs.Split.{Message}
use Rattle.vhost_protocol.specs.Step.{Refusal, Step, OpensBackend, OpensGpu, ◌>>=◌, ◌>>◌, silently, acknowledged}
use Rattle.vhost_protocol.specs.Error.{test}

-- ---- tests

-- the body has this size, and the message is no reply
abbrev pub is_bare : {R H : Type 0} → ℕ → Message R H → Bool
is_bare size m = length m.body == size && not m.reply

-- that, or the message is invalid
abbrev pub bare : {H : Type 0} → ℕ → Message HeardReq H → Result ⊤ (Refusal H)
bare size m = test (is_bare size m) (silently InvalidMessage)

-- the body is one valid record
abbrev pub body : {H A : Type 0} → ℕ → (List ℕ → A) → (A → Bool) → Message HeardReq H → Result A (Refusal H)
body size of is_valid m = if is_bare size m && is_valid (of m.body) then Ok (of m.body) else Err (silently InvalidMessage)

-- every value is valid
abbrev pub always : {A : Type 0} → A → Bool
always a = true

-- the body is one number
abbrev pub u64 : {H : Type 0} → Message HeardReq H → Result ℕ (Refusal H)
u64 m = body 8 (u64_at 0) always m

-- a protocol feature is acknowledged
abbrev pub session_feature : {H : Type 0} → Session → ℕ → Result ⊤ (Refusal H)
session_feature s feature = test (has_bit s.acked_protocol_features feature) (silently (InactiveOperation (2 ^ feature)))

-- the one element of a list
abbrev pub only : {A E : Type 0} → E → List A → Result A E
only e (a ∷ []) = Ok a
only e _ = Err e

-- exactly one handle
abbrev pub one_handle : {H : Type 0} → Message HeardReq H → Refusal H → Result H (Refusal H)
one_handle m refusal = only refusal m.handles

-- while listening, a body of eight bytes says that the regions are mapped ("Postcopy")
abbrev pub is_mapped : {H : Type 0} → Session → Message HeardReq H → Bool
is_mapped s m = is_listen s.postcopy && length m.body == 8

-- the name of a shared object
abbrev pub name_of : List ℕ → VhostUserSharedMsg
name_of bytes = record { uuid = bytes }

-- neither nil nor all ones
abbrev pub is_valid_name : VhostUserSharedMsg → Bool
is_valid_name name = is_valid_uuid name.uuid

-- ---- the ring's handle

-- Bit 8 of the number says that there is no handle. Bits above it are ignored.
abbrev pub ring_row : {H B G : Type 0} → Message HeardReq H → (ℕ → Option H → Step H B G) → Step H B G
ring_row m call = do
  n ← u64 m
  (if has_bit n 8
      then (do
        test (not (length m.handles == 1)) (silently InvalidMessage)
        call (n % 256) None)
      else (do
        h ← one_handle m (silently InvalidMessage)
        call (n % 256) (Some h)))

-- ---- regions

-- a table's body has room for so many regions, and for nothing more; under Standard it may be longer
abbrev pub is_table_size : Session → ℕ → ℕ → Bool
is_table_size s n size =
    if is_standard s.profile then nat_le (MEMORY_HEAD_SIZE + MEMORY_REGION_SIZE * n) size else size == MEMORY_HEAD_SIZE + MEMORY_REGION_SIZE * n

-- a table of as many regions and handles as it says, each region valid ("Multiple Memory regions description")
abbrev pub is_valid_table : {H : Type 0} → Session → Message HeardReq H → Bool
is_valid_table s m =
    let n = (memory_of m.body).num_regions in
    not m.reply && nat_le MEMORY_HEAD_SIZE (length m.body) && is_valid_memory (memory_of m.body)
    && is_table_size s n (length m.body)
    && length m.handles == n && list_all is_valid_region (regions_of n (drop MEMORY_HEAD_SIZE m.body))

-- the regions of a table
abbrev pub table : {H : Type 0} → Message HeardReq H → List VhostUserMemoryRegion
table m = regions_of (memory_of m.body).num_regions (drop MEMORY_HEAD_SIZE m.body)

-- ---- rows of more than one case

-- while listening: the frontend says that it has mapped the regions; the answer stays unwritten
abbrev pub mapped_row : {H B G : Type 0} → Session → Message HeardReq H → Step H B G
mapped_row s m = do
  n ← u64 m
  test (n == 0) (silently FrontendInternalError)
  calls s m PostcopyAckMemRegions

-- a table of regions, which are to be mapped while listening
abbrev pub table_row : {H B G : Type 0} → Session → Message HeardReq H → Step H B G
table_row s m = do
  test (is_valid_table s m) (acknowledged s m InvalidMessage)
  (if is_listen s.postcopy
      then calls s m (SetMemTable (table m) m.handles (Some true))
      else calls s m (SetMemTable (table m) m.handles (Some false)))

-- one region, which is to be mapped while listening
abbrev pub region_row : {H B G : Type 0} → Session → Message HeardReq H → Step H B G
region_row s m = do
  h ← one_handle m (silently InvalidParam)
  r ← body 40 single_region_of always m
  (if is_listen s.postcopy
      then calls s m (AddMemRegion r h (Some true))
      else calls s m (AddMemRegion r h (Some false)))

-- a valid record with as many bytes behind it as it says
abbrev pub is_valid_area : {H : Type 0} → Message HeardReq H → Bool
is_valid_area m = nat_le 12 (length m.body) && is_valid_config (config_of m.body) && length m.body == 12 + (config_of m.body).size

-- the channel that a handle opened, else its error is acknowledged
abbrev pub channel : {H C : Type 0} → Session → Message HeardReq H → Result C Error → Result C (Refusal H)
channel s m (Ok c) = Ok c
channel s m (Err e) = Err (acknowledged s m e)

-- A request that has no row of its own. Under Standard the device is given it whole, and says whether it is served.
abbrev pub other_row : {H B G : Type 0} → Session → Message HeardReq H → Step H B G
other_row s m = do
  test (is_standard s.profile && not m.reply) (silently InvalidMessage)
  calls s m (Other (request_number m.request) m.body m.handles)

-- ---- the table

-- the row of each request
abbrev pub row_of : {H B G : Type 0} → HeardReq → Session → Message HeardReq H → Step H B G
row_of SET_OWNER s m = do
  bare 0 m
  calls s m SetOwner
row_of RESET_OWNER s m = do
  bare 0 m
  calls s m ResetOwner
row_of RESET_DEVICE s m = do
  session_feature s RESETS_DEVICE
  bare 0 m
  calls s m ResetDevice
row_of GET_FEATURES s m = do
  bare 0 m
  calls s m GetFeatures
row_of SET_FEATURES s m = do
  n ← u64 m
  calls s m (SetFeatures n)
row_of SET_MEM_TABLE s m = if is_mapped s m then mapped_row s m else table_row s m
row_of SET_LOG_BASE s m = do
  session_feature s LOG_SHMFD
  h ← one_handle m (silently IncorrectFds)
  l ← body 16 log_of is_valid_log m
  calls s m (SetLogBase l h)
row_of SET_VRING_NUM s m = do
  v ← body 8 vring_state_of always m
  calls s m (SetVringNum v.index v.num)
row_of SET_VRING_BASE s m = do
  v ← body 8 vring_state_of always m
  calls s m (SetVringBase v.index v.num)
row_of SET_VRING_ADDR s m = do
  v ← body 40 vring_addr_of is_valid_vring_addr m
  calls s m (SetVringAddr v)
row_of GET_VRING_BASE s m = do
  v ← body 8 vring_state_of always m
  calls s m (GetVringBase v.index)
row_of SET_VRING_KICK s m = ring_row m (λ n h. calls s m (SetVringKick n h))
row_of SET_VRING_CALL s m = ring_row m (λ n h. calls s m (SetVringCall n h))
row_of SET_VRING_ERR s m = ring_row m (λ n h. calls s m (SetVringErr n h))
row_of GET_PROTOCOL_FEATURES s m = do
  bare 0 m
  calls s m GetProtocolFeatures
row_of SET_PROTOCOL_FEATURES s m = do
  n ← u64 m
  calls s m (SetProtocolFeatures n)
row_of GET_QUEUE_NUM s m = do
  session_feature s MQ
  bare 0 m
  calls s m GetQueueNum
row_of GET_MAX_MEM_SLOTS s m = do
  session_feature s CONFIGURE_MEM_SLOTS
  bare 0 m
  calls s m GetMaxMemSlots
row_of SET_VRING_ENABLE s m = do
  v ← body 8 vring_state_of always m
  test (has_bit (enabling s) PROTOCOL_FEATURES) (silently (InactiveFeature (2 ^ PROTOCOL_FEATURES)))
  test (nat_le v.num 1) (silently InvalidParam)
  calls s m (SetVringEnable v.index (v.num == 1))
row_of NET_SET_MTU s m = do
  session_feature s MTU
  n ← u64 m
  test (nat_le n 65535) (silently InvalidParam)
  calls s m (SetMtu n)
row_of GET_CONFIG s m = do
  session_feature s CONFIG
  test (not m.reply && is_valid_area m) (silently InvalidMessage)
  let c = config_of m.body in calls s m (GetConfig c.offset c.size c.flags)
row_of SET_CONFIG s m = do
  session_feature s CONFIG
  test (not m.reply) (silently InvalidMessage)
  test (is_valid_area m) (acknowledged s m InvalidMessage)
  let c = config_of m.body in calls s m (SetConfig c.offset (drop 12 m.body) c.flags)
row_of SET_BACKEND_REQ_FD s m = do
  session_feature s BACKEND_REQ
  test (not m.reply) (silently InvalidMessage)
  h ← one_handle m (acknowledged s m InvalidMessage)
  OpensBackend h (λ opened. do
    backend ← channel s m opened
    calls s m (SetBackendReqFd backend))
row_of GPU_SET_SOCKET s m = do
  h ← one_handle m (acknowledged s m InvalidMessage)
  OpensGpu h (λ opened. do
    gpu ← channel s m opened
    calls s m (SetGpuSocket gpu))
row_of GET_SHARED_OBJECT s m = do
  session_feature s SHARED_OBJECT
  name ← body 16 name_of is_valid_name m
  calls s m (GetSharedObject name)
row_of GET_INFLIGHT_FD s m = do
  session_feature s INFLIGHT_SHMFD
  i ← body 24 inflight_of is_valid_inflight m
  calls s m (GetInflightFd i)
row_of SET_INFLIGHT_FD s m = do
  session_feature s INFLIGHT_SHMFD
  h ← one_handle m (silently IncorrectFds)
  i ← body 24 inflight_of is_valid_inflight m
  calls s m (SetInflightFd i h)
row_of ADD_MEM_REG s m = do
  session_feature s CONFIGURE_MEM_SLOTS
  (if is_mapped s m then mapped_row s m else region_row s m)
row_of REM_MEM_REG s m = do
  session_feature s CONFIGURE_MEM_SLOTS
  (if is_mapped s m then mapped_row s m else (do
    r ← body 40 single_region_of always m
    calls s m (RemoveMemRegion r)))
row_of SET_DEVICE_STATE_FD s m = do
  h ← one_handle m (silently IncorrectFds)
  t ← body 8 transfer_of is_valid_transfer m
  calls s m (SetDeviceStateFd t h)
row_of CHECK_DEVICE_STATE s m = calls s m CheckDeviceState
row_of GET_SHMEM_CONFIG s m = do
  session_feature s SHMEM
  calls s m GetShmemConfig
row_of POSTCOPY_ADVISE s m = do
  session_feature s PAGEFAULT
  test (is_inactive s.postcopy) (silently (InvalidOperation (codes "postcopy already advised")))
  calls s m PostcopyAdvice
row_of POSTCOPY_LISTEN s m = do
  session_feature s PAGEFAULT
  test (is_advise s.postcopy) (silently (InvalidOperation (codes "postcopy not advised")))
  calls s m PostcopyListen
row_of POSTCOPY_END s m = do
  session_feature s PAGEFAULT
  test (is_listen s.postcopy) (silently (InvalidOperation (codes "postcopy not listening")))
  calls s m PostcopyEnd
row_of _ s m = other_row s m

-- the row of a message
abbrev pub row : {H B G : Type 0} → Session → Message HeardReq H → Step H B G
row s m = row_of m.request s m
