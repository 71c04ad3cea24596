-- The arguments of a call of a device, by its form.
use Rattle.std.specs.Prelude.{◌≡◌, ◌<◌, ℕ, ℤ, negsuc, Bool, false, List, [], ◌∷◌, ◌++◌, length, map, drop, Option, Some, None, Result, Ok, Err, not, ◌==◌, bit_and, if◌then◌else◌, ⊤}
use Rattle.vhost_message.specs.Transfer.{direction_number, phase_number}
use Rattle.vhost_message.specs.declared.records.memory.VhostUserMemoryRegion.{VhostUserMemoryRegion}
use Rattle.vhost_message.specs.declared.records.vring.VhostUserVringAddr.{VhostUserVringAddr}
use Rattle.vhost_link.specs.declared.plain.PlainHandle.{PlainHandle}
use Rattle.vhost_backend_req_handler_core.specs.Beginning.{regions_in}
use Rattle.vhost_backend_req_handler_core.specs.declared.call.DeviceCall.{DeviceCall}
use Rattle.vhost_backend_req_handler_core.specs.declared.call.DeviceCall.TheVariants as call
use Rattle.vhost_c_common.specs.Records.{fd_in}
use Rattle.vhost_c_common.specs.declared.records.Config.{Config}
use Rattle.vhost_c_common.specs.declared.records.Inflight.{Inflight}
use Rattle.vhost_c_common.specs.declared.records.Region.{Region}
use Rattle.vhost_c_common.specs.declared.records.Vring.{Vring}
use Rattle.vhost_c_common.specs.declared.refusal.Refusal.{Refusal}
use Rattle.vhost_c_common.specs.declared.refusal.Refusal.TheVariants.{NoRoom, OtherCall}

-- ---- descriptors

-- the first of some descriptors, or -1
abbrev pub first_fd : List PlainHandle → ℤ
first_fd [] = negsuc 0
first_fd (h ∷ hs) = fd_in h

-- the descriptor at a place, or -1
abbrev pub fd_at : List PlainHandle → ℕ → ℤ
fd_at hs n = first_fd (drop n hs)

-- ---- numbers and records

-- a number, or features
abbrev pub number_arg : DeviceCall → Option ℕ
number_arg (call.SetFeatures n) = Some n
number_arg (call.SetProtocolFeatures n) = Some n
number_arg (call.SetMtu n) = Some n
number_arg _ = None

-- a ring, and a number
abbrev pub ring_arg : DeviceCall → Option (ℕ × ℕ)
ring_arg (call.SetVringNum i n) = Some (i, n)
ring_arg (call.SetVringBase i n) = Some (i, n)
ring_arg (call.SetVringEnable i on) = Some (i, if on then 1 else 0)
ring_arg (call.GetVringBase i) = Some (i, 0)
ring_arg _ = None

-- where a ring lies
abbrev pub vring_at : VhostUserVringAddr → Vring
vring_at v = record { queue_max_size = 0; queue_size = 0; flags = v.flags; desc_table_addr = v.descriptor; used_ring_addr = v.used; avail_ring_addr = v.available; log_addr = v.log; has_log_addr = not (bit_and v.flags 1 == 0) }

-- a ring, and where it lies
abbrev pub vring_arg : DeviceCall → Option (ℕ × Vring)
vring_arg (call.SetVringAddr v) = Some (v.index, vring_at v)
vring_arg _ = None

-- a ring, and its eventfd, or -1
abbrev pub ring_fd_arg : List PlainHandle → DeviceCall → Option (ℕ × ℤ)
ring_fd_arg hs (call.SetVringKick i given) = Some (i, if given then first_fd hs else negsuc 0)
ring_fd_arg hs (call.SetVringCall i given) = Some (i, if given then first_fd hs else negsuc 0)
ring_fd_arg hs (call.SetVringErr i given) = Some (i, if given then first_fd hs else negsuc 0)
ring_fd_arg hs _ = None

-- the socket of a channel
abbrev pub fd_arg : List PlainHandle → DeviceCall → Option ℤ
fd_arg hs call.SetBackendReqFd = Some (first_fd hs)
fd_arg hs call.SetGpuSocket = Some (first_fd hs)
fd_arg hs _ = None

-- the name of a shared object
abbrev pub name_arg : DeviceCall → Option (List ℕ)
name_arg (call.GetSharedObject object) = Some object.uuid
name_arg _ = None

-- the inflight region, and the descriptor that maps it, or -1
abbrev pub inflight_arg : List PlainHandle → DeviceCall → Option (Inflight × ℤ)
inflight_arg hs (call.GetInflightFd a) = Some (record { mmap_size = a.mmap_size; mmap_offset = a.mmap_offset; num_queues = a.num_queues; queue_size = a.queue_size }, negsuc 0)
inflight_arg hs (call.SetInflightFd a) = Some (record { mmap_size = a.mmap_size; mmap_offset = a.mmap_offset; num_queues = a.num_queues; queue_size = a.queue_size }, first_fd hs)
inflight_arg hs _ = None

-- the direction and the phase of a transfer, and its pipe
abbrev pub transfer_arg : List PlainHandle → DeviceCall → Option (ℕ × ℕ × ℤ)
transfer_arg hs (call.SetDeviceStateFd direction phase) = Some (direction_number direction, phase_number phase, first_fd hs)
transfer_arg hs _ = None

-- the dirty log
abbrev pub log_arg : List PlainHandle → DeviceCall → Option Region
log_arg hs (call.SetLogBase l) = Some (record { guest_phys_addr = 0; memory_size = l.mmap_size; user_addr = 0; mmap_offset = l.mmap_offset; fd = first_fd hs })
log_arg hs _ = None

-- ---- regions

-- a region with a descriptor
abbrev pub region_at : VhostUserMemoryRegion → ℤ → Region
region_at r fd = record { guest_phys_addr = r.guest_phys_addr; memory_size = r.memory_size; user_addr = r.user_addr; mmap_offset = r.mmap_offset; fd = fd }

-- regions, each with the descriptor at the same place, or with -1
abbrev pub regions_with : List VhostUserMemoryRegion → List PlainHandle → List Region
regions_with [] hs = []
regions_with (r ∷ rs) hs = region_at r (first_fd hs) ∷ regions_with rs (drop 1 hs)

-- the regions of a call, and whether postcopy listens
abbrev pub regions_arg : List PlainHandle → DeviceCall → Option (List Region × Bool)
regions_arg hs (call.SetMemTable table listens) = Some (regions_with (regions_in table) hs, listens)
regions_arg hs (call.AddMemRegion r listens) = Some (regions_with (r.region ∷ []) hs, listens)
regions_arg hs (call.RemoveMemRegion r) = Some (regions_with (r.region ∷ []) [], false)
regions_arg hs _ = None

-- bytes of the configuration space, and which part they are
abbrev pub config_arg : DeviceCall → Option (List ℕ × Config)
config_arg (call.GetConfig a) = Some ([], record { offset = a.config.offset; size = a.config.size; flags = a.config.flags })
config_arg (call.SetConfig a bytes) = Some (bytes.now, record { offset = a.config.offset; size = a.config.size; flags = a.config.flags })
config_arg _ = None

-- the body of a request without a call of its own, and its number
abbrev pub other_arg : DeviceCall → Option (List ℕ × ℕ)
other_arg (call.Other request body) = Some (body.now, request)
other_arg _ = None

-- all descriptors that came with it
abbrev pub fds_arg : List PlainHandle → DeviceCall → Option (List ℤ × ⊤)
fds_arg hs (call.Other request body) = Some (map fd_in hs, tt)
fds_arg hs _ = None

-- A list is put at the front of a place, and how long it is; or there is no room for it.
abbrev pub PutsAll : {A : Type 0} → List A → List A → List A → Result ℕ Refusal → Type 0
PutsAll list before after (Ok n) = (after ≡ list ++ drop (length list) before) × (n ≡ length list)
PutsAll list before after (Err r) = (r ≡ NoRoom) × (length before < length list) × (after ≡ before)

-- A list is put at the front of a place, and how long it is, with what comes with it; or there is no room for it, or it is none.
abbrev pub PutsList : {A B : Type 0} → Option (List A × B) → List A → List A → Result (ℕ × B) Refusal → Type 0
PutsList (Some x) before after (Ok y) = (after ≡ x.0 ++ drop (length x.0) before) × (y.0 ≡ length x.0) × (y.1 ≡ x.1)
PutsList (Some x) before after (Err r) = (r ≡ NoRoom) × (length before < length x.0) × (after ≡ before)
PutsList None before after (Ok y) = ⊥
PutsList None before after (Err r) = (r ≡ OtherCall) × (after ≡ before)

-- the regions of a call are
abbrev pub PutsRegions : List PlainHandle → DeviceCall → List Region → List Region → Result (ℕ × Bool) Refusal → Type 0
PutsRegions hs c = PutsList (regions_arg hs c)

-- the bytes of a call are
abbrev pub PutsConfig : DeviceCall → List ℕ → List ℕ → Result (ℕ × Config) Refusal → Type 0
PutsConfig c = PutsList (config_arg c)

-- the body of another request is
abbrev pub PutsOther : DeviceCall → List ℕ → List ℕ → Result (ℕ × ℕ) Refusal → Type 0
PutsOther c = PutsList (other_arg c)

-- its descriptors are
abbrev pub PutsFds : List PlainHandle → DeviceCall → List ℤ → List ℤ → Result (ℕ × ⊤) Refusal → Type 0
PutsFds hs c = PutsList (fds_arg hs c)

-- A name is put at the front of a place; or there is no room for it, or it is none.
abbrev pub PutsNamed : Option (List ℕ) → List ℕ → List ℕ → Result ⊤ Refusal → Type 0
PutsNamed (Some name) before after (Ok done) = after ≡ name ++ drop 16 before
PutsNamed (Some name) before after (Err r) = (r ≡ NoRoom) × (length before < 16) × (after ≡ before)
PutsNamed None before after (Ok done) = ⊥
PutsNamed None before after (Err r) = (r ≡ OtherCall) × (after ≡ before)

-- the name of a call is
abbrev pub PutsName : DeviceCall → List ℕ → List ℕ → Result ⊤ Refusal → Type 0
PutsName c = PutsNamed (name_arg c)
