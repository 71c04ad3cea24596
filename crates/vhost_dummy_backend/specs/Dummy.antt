-- What the example device does at each call: why it refuses, what it answers, and what it changes.
use Rattle.std.specs.Prelude.{◌≡◌, ℕ, ◌+◌, ◌-◌, Bool, true, false, not, ◌&&◌, ◌==◌, ◌^◌, nat_eq, nat_lt, nat_le, bit_and, if◌then◌else◌, List, [], ◌∷◌, map, replicate, slice_index, slice_set, codes, Option, Some, None, Result, Ok, Err, is_ok, ⊤}
use Rattle.std.specs.Cmp.Lexicographic.{pointwise}
use Rattle.std.specs.declared.alloc.Global.{Global}
use Rattle.vhost_message.specs.Bits.{has_bit}
use Rattle.vhost_message.specs.Records.{region_within}
use Rattle.vhost_message.specs.declared.cause.IoCause.{IoCause}
use Rattle.vhost_message.specs.declared.limits.TheConstants.{VHOST_USER_CONFIG_OFFSET}
use Rattle.vhost_message.specs.declared.protocol_bit.TheConstants.{SHMEM}
use Rattle.vhost_message.specs.declared.records.inflight.VhostUserInflight.{VhostUserInflight}
use Rattle.vhost_protocol.specs.DeviceCall.{Call, Answer, SetOwner, ResetOwner, ResetDevice, GetFeatures, SetFeatures, SetMemTable, SetVringNum, SetVringAddr, SetVringBase, GetVringBase, SetVringKick, SetVringCall, SetVringErr, GetProtocolFeatures, SetProtocolFeatures, GetQueueNum, SetVringEnable, GetConfig, SetConfig, SetBackendReqFd, SetGpuSocket, GetSharedObject, GetInflightFd, SetInflightFd, GetMaxMemSlots, AddMemRegion, RemoveMemRegion, SetDeviceStateFd, CheckDeviceState, GetShmemConfig, PostcopyAdvice, PostcopyListen, PostcopyEnd, PostcopyAckMemRegions, SetLogBase, SetMtu, Other}
use Rattle.vhost_protocol.specs.Error.{Error, Named, InvalidParam, InvalidOperation, InactiveFeature, InactiveOperation, ReqHandlerError, OutOfMemory}
use Rattle.vhost_protocol.specs.Features.{PROTOCOL_FEATURES, CONFIG}
use Rattle.vhost_dummy_backend.specs.Spares.{but_last, left, IsLast, IsLastCopied}
use Rattle.vhost_dummy_backend.specs.declared.dummy.DummyBackendReqHandler.{DummyBackendReqHandler}
use Rattle.vhost_dummy_backend.specs.declared.dummy.TheConstants.{MAX_QUEUE_NUM, MAX_VRING_NUM, MAX_MEM_SLOTS, VIRTIO_FEATURES}

-- ---- how a call ends

-- the error of the first test that fails
abbrev pub refusal : List (Bool × Error) → Option Error
refusal [] = None
refusal (test ∷ tests) = if test.0 then refusal tests else Some test.1

-- a refused call changes nothing; any other answers this, and the device is this from then on
abbrev pub Does : {A D : Type 0} → D → Option Error → A → D → Result A Error → D → Type 0
Does old (Some e) value next answer new = (answer ≡ Err e) × (new ≡ old)
Does old None value next answer new = (answer ≡ Ok value) × (new ≡ next)

-- nothing changes, and this is answered
abbrev pub Answers : {A D : Type 0} → D → A → Result A Error → D → Type 0
Answers old value = Does old None value old

-- nothing changes, and this refuses the call
abbrev pub Refuses : {A D : Type 0} → D → Error → Result A Error → D → Type 0
Refuses old e answer new = (answer ≡ Err e) × (new ≡ old)

-- it agrees, and the device is this from then on
abbrev pub Becomes : {D : Type 0} → D → D → Result ⊤ Error → D → Type 0
Becomes old next = Does old None tt next

-- nothing changes, and an answer that takes memory is this, or that there was none
abbrev pub Makes : {A D : Type 0} → D → Option Error → A → Result A Error → D → Type 0
Makes old (Some e) value answer new = Refuses old e answer new
Makes old None value (Ok a) new = (a ≡ value) × (new ≡ old)
Makes old None value (Err e) new = (e ≡ OutOfMemory) × (new ≡ old)

-- nothing changes, and this is answered where it is there
abbrev pub Shows : {A D : Type 0} → D → Option A → Error → Result A Error → D → Type 0
Shows old (Some value) e answer new = Answers old value answer new
Shows old None e answer new = Refuses old e answer new

-- the last spare handle is given out, and its copy kept; or neither is
abbrev pub GivesCopied : {H D : Type 0} → (H → Result H IoCause → Type 0) → List H → (H → D) → D → Result H Error → D → Type 0
GivesCopied {H} copies spare kept old (Ok file) new = (copy : H) × IsLastCopied copies spare (Ok (file, copy)) × (new ≡ kept copy)
GivesCopied copies spare kept old (Err e) new = IsLastCopied copies spare (Err e) × (new ≡ old)

-- it comes with an area
abbrev pub GivesArea : {H D : Type 0} → (H → Result H IoCause → Type 0) → List H → VhostUserInflight → (H → D) → D → Result (VhostUserInflight × H) Error → D → Type 0
GivesArea copies spare area kept old (Ok both) new = (both.0 ≡ area) × GivesCopied copies spare kept old (Ok both.1) new
GivesArea copies spare area kept old (Err e) new = GivesCopied copies spare kept old (Err e) new

-- ---- the device

-- nobody owns it, nothing is chosen, and its two rings are stopped and disabled
abbrev pub fresh : {L H : Type 0} → Global → List H → DummyBackendReqHandler L H
fresh alloc spare = record {
  owned = false;
  features_acked = false;
  acked_features = 0;
  acked_protocol_features = 0;
  mtu = 0;
  queue_num = MAX_QUEUE_NUM;
  vring_num = replicate MAX_QUEUE_NUM 0;
  vring_base = replicate MAX_QUEUE_NUM 0;
  call_fd = None ∷ None ∷ [];
  kick_fd = None ∷ None ∷ [];
  err_fd = None ∷ None ∷ [];
  vring_started = replicate MAX_QUEUE_NUM false;
  vring_enabled = replicate MAX_QUEUE_NUM false;
  inflight_file = None;
  shared_file = None;
  shmem_config = None;
  spare = spare;
  alloc = alloc;
}

-- a ring of this index is there
abbrev pub has_ring : {L H : Type 0} → DummyBackendReqHandler L H → ℕ → Bool
has_ring d index = nat_lt index d.queue_num && nat_lt index MAX_QUEUE_NUM

-- what refuses a call on a ring that is not there
abbrev pub no_ring : {L H : Type 0} → DummyBackendReqHandler L H → ℕ → Option Error
no_ring d index = refusal ((has_ring d index, InvalidParam) ∷ [])

-- what there is of configuration space
abbrev pub config_bytes : List ℕ
config_bytes = 0xa5 ∷ 0xa5 ∷ 0xa5 ∷ 0xa5 ∷ []

abbrev pub no_transfer : Error
no_transfer = ReqHandlerError (Named (codes "dummy back end does not support state transfer"))

abbrev pub no_shmem : Error
no_shmem = ReqHandlerError (Named (codes "dummy back end does not support shared memory regions"))

-- By cases on the call: what refuses it, what it answers, and the device from then on. How a handle may be copied is the link's.
abbrev pub DummyGives : {L H B G : Type 0} → (H → Result H IoCause → Type 0) → DummyBackendReqHandler L H → (c : Call H B G) → Answer c → DummyBackendReqHandler L H → Type 0
DummyGives copies old SetOwner = Does old (refusal ((not old.owned, InvalidOperation (codes "already claimed")) ∷ [])) tt (record old { owned = true })
DummyGives copies old ResetOwner = Becomes old (record old { owned = false; features_acked = false; acked_features = 0; acked_protocol_features = 0 })
DummyGives copies old ResetDevice = Becomes old (record old { features_acked = false; acked_features = 0 })
DummyGives copies old GetFeatures = Answers old VIRTIO_FEATURES
-- without the features of the protocol all rings are enabled, with them none is
DummyGives copies old (SetFeatures features) = Does old
    (refusal ((old.owned, InvalidOperation (codes "not owned")) ∷ (not old.features_acked, InvalidOperation (codes "features already set")) ∷ (bit_and features VIRTIO_FEATURES == features, InvalidParam) ∷ []))
    tt (record old { acked_features = features; features_acked = true; vring_enabled = replicate MAX_QUEUE_NUM (not (has_bit features PROTOCOL_FEATURES)) })
-- all features of the protocol: the last is SHMEM
DummyGives copies old GetProtocolFeatures = Answers old (2 ^ (SHMEM + 1) - 1)
DummyGives copies old (SetProtocolFeatures features) = Becomes old (record old { acked_protocol_features = features })
-- rings
DummyGives copies old GetQueueNum = Answers old MAX_QUEUE_NUM
DummyGives copies old (SetVringNum index num) = Does old (refusal ((has_ring old index, InvalidParam) ∷ (nat_le 1 num && nat_le num MAX_VRING_NUM, InvalidParam) ∷ []))
    tt (record old { vring_num = slice_set old.vring_num index num })
DummyGives copies old (SetVringAddr addresses) = Does old (no_ring old addresses.index) tt old
DummyGives copies old (SetVringBase index base) = Does old (refusal ((has_ring old index, InvalidParam) ∷ (nat_lt base MAX_VRING_NUM, InvalidParam) ∷ []))
    tt (record old { vring_base = slice_set old.vring_base index base })
DummyGives copies old (GetVringBase index) = Does old (no_ring old index)
    (record { index = index; num = slice_index old.vring_base index }) (record old { vring_started = slice_set old.vring_started index false })
DummyGives copies old (SetVringKick index fd) = Does old (no_ring old index) tt (record old { kick_fd = slice_set old.kick_fd index fd; vring_started = slice_set old.vring_started index true })
DummyGives copies old (SetVringCall index fd) = Does old (no_ring old index) tt (record old { call_fd = slice_set old.call_fd index fd })
DummyGives copies old (SetVringErr index fd) = Does old (no_ring old index) tt (record old { err_fd = slice_set old.err_fd index fd })
DummyGives copies old (SetVringEnable index enable) = Does old (refusal ((has_bit old.acked_features PROTOCOL_FEATURES, InactiveFeature (2 ^ PROTOCOL_FEATURES)) ∷ (has_ring old index, InvalidParam) ∷ []))
    tt (record old { vring_enabled = slice_set old.vring_enabled index enable })
DummyGives copies old (SetMtu mtu) = Does old (refusal ((nat_le 1 mtu, InvalidParam) ∷ [])) tt (record old { mtu = mtu })
-- configuration space: four bytes at its beginning
DummyGives copies old (GetConfig offset size flags) = Makes old
    (refusal ((has_bit old.acked_protocol_features CONFIG, InactiveOperation (2 ^ CONFIG)) ∷ (offset == VHOST_USER_CONFIG_OFFSET && size == 4, InvalidParam) ∷ [])) config_bytes
DummyGives copies old (SetConfig offset bytes flags) = Does old
    (refusal ((has_bit old.acked_protocol_features CONFIG, InactiveOperation (2 ^ CONFIG)) ∷ (offset == VHOST_USER_CONFIG_OFFSET && pointwise nat_eq bytes config_bytes, InvalidParam) ∷ [])) tt old
-- memory: while postcopy listens, a region lies where the frontend has it
DummyGives copies old GetMaxMemSlots = Answers old MAX_MEM_SLOTS
DummyGives copies old (SetMemTable regions files (Some true)) = Makes old None (Some (map (λ r. r.user_addr) regions))
DummyGives copies old (SetMemTable regions files (Some false)) = Answers old None
DummyGives copies old (SetMemTable regions files None) = Answers old None
DummyGives copies old (AddMemRegion region file (Some true)) = Answers old (Some (region_within region).user_addr)
DummyGives copies old (AddMemRegion region file (Some false)) = Answers old None
DummyGives copies old (AddMemRegion region file None) = Answers old None
DummyGives copies old (RemoveMemRegion region) = Answers old tt
DummyGives copies old (SetLogBase log file) = Answers old tt
DummyGives copies old GetShmemConfig = Shows old old.shmem_config no_shmem
-- handles that it gives out
DummyGives copies old (GetSharedObject name) = GivesCopied copies old.spare (λ copy. record old { spare = but_last old.spare; shared_file = Some copy }) old
DummyGives copies old (GetInflightFd area) = GivesArea copies old.spare (record area { mmap_size = 0x1000; mmap_offset = 0 })
    (λ copy. record old { spare = but_last old.spare; inflight_file = Some copy }) old
DummyGives copies old (SetInflightFd area file) = Answers old tt
DummyGives copies old PostcopyAdvice = λ answer new. IsLast old.spare answer × (new ≡ record old { spare = left (is_ok answer) old.spare })
DummyGives copies old PostcopyListen = Answers old tt
DummyGives copies old PostcopyEnd = Answers old tt
DummyGives copies old PostcopyAckMemRegions = Answers old tt
-- channels, and the state that it doesn't have
DummyGives copies old (SetBackendReqFd channel) = λ answer new. new ≡ old
DummyGives copies old (SetGpuSocket channel) = Answers old tt
DummyGives copies old (SetDeviceStateFd transfer file) = Refuses old no_transfer
DummyGives copies old CheckDeviceState = Refuses old no_transfer
-- it serves no other request
DummyGives copies old (Other request body files) = Refuses old (InvalidOperation (codes "request not served"))
