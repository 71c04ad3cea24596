-- The calls of a frontend as lines of words.
use Rattle.std.specs.Prelude.{ℕ, min, List, [], ◌∷◌, Option, Some, None, option_map, codes, replicate, if◌then◌else◌}
use Rattle.std.specs.Str.{bytes_eq, is_utf8}
use Rattle.vhost_link.specs.declared.plain.PlainHandle.{PlainHandle}
use Rattle.vhost_message.specs.declared.records.inflight.VhostUserInflight.{VhostUserInflight}
use Rattle.vhost_protocol.specs.FrontendCall.{FrontendCall, Info, GetFeatures, SetFeatures, SetOwner, ResetOwner, GetProtocolFeatures, SetProtocolFeatures, GetQueueNum, ResetDevice, SetMemTable, SetLogBase, SetLogFd, SetVringNum, SetVringBase, SetVringAddr, GetVringBase, SetVringCall, SetVringKick, SetVringErr, SetVringEnable, GetConfig, SetConfig, SetBackendRequestFd, GetSharedObject, GetInflightFd, SetInflightFd, GetMaxMemSlots, AddMemRegion, RemoveMemRegion, GetShmemConfig, SetDeviceStateFd, CheckDeviceState, PostcopyAdvise, PostcopyListen, PostcopyEnd, PostcopyAckMemRegions, SetMtu, SetHdrFlags}
use Rattle.vhost_lines.specs.Words.{words}
use Rattle.vhost_lines.specs.Number.{u64, u32, u16}
use Rattle.vhost_lines.specs.Arguments.{◌>>=◌, enabled, protocol_features, header_flags, config_flags, handle, request, direction, phase, byte_string, object_name}
use Rattle.vhost_lines.specs.Shapes.{bare, one, two, three, optional}

-- a call, over plain handles
abbrev pub Call : Type 0
Call = FrontendCall PlainHandle

-- a region of guest memory, and the handle that maps it
abbrev pub region : (guest size user offset mapping : List ℕ) → Option (Info PlainHandle)
region guest size user offset mapping = do
  g ← u64 guest
  s ← u64 size
  u ← u64 user
  o ← u64 offset
  h ← handle mapping
  Some (record { region = record { guest_phys_addr = g; memory_size = s; user_addr = u; mmap_offset = o }; handle = Some h })

-- the arguments as one region
abbrev pub only_region : List (List ℕ) → Option (Info PlainHandle)
only_region (guest ∷ size ∷ user ∷ offset ∷ mapping ∷ []) = region guest size user offset mapping
only_region _ = None

-- a region to add
abbrev pub add_mem_region : List (List ℕ) → Option Call
add_mem_region args = option_map AddMemRegion (only_region args)

-- a region to take away
abbrev pub remove_mem_region : List (List ℕ) → Option Call
remove_mem_region args = option_map RemoveMemRegion (only_region args)

-- any number of regions, of five words each
abbrev pub regions : List (List ℕ) → Option (List (Info PlainHandle))
regions [] = Some []
regions (guest ∷ size ∷ user ∷ offset ∷ mapping ∷ args) = do
  info ← region guest size user offset mapping
  infos ← regions args
  Some (info ∷ infos)
regions _ = None

-- a table of memory, of any number of regions
abbrev pub set_mem_table : List (List ℕ) → Option Call
set_mem_table args = option_map SetMemTable (regions args)

-- the log's base, and where the log is kept, which may be left out
abbrev pub set_log_base : List (List ℕ) → Option Call
set_log_base (base ∷ []) = option_map (λ b. SetLogBase b None) (u64 base)
set_log_base (base ∷ size ∷ offset ∷ mapping ∷ []) = do
  b ← u64 base
  s ← u64 size
  o ← u64 offset
  h ← handle mapping
  Some (SetLogBase b (Some (record { mmap_size = s; mmap_offset = o; handle = Some h })))
set_log_base _ = None

-- a ring's index, its flags, and where its parts and its log lie; the log may be left out
abbrev pub set_vring_addr : List (List ℕ) → Option Call
set_vring_addr (index ∷ flags ∷ descriptor ∷ used ∷ available ∷ args) = do
  i ← u64 index
  f ← u32 flags
  d ← u64 descriptor
  u ← u64 used
  a ← u64 available
  l ← optional u64 args
  Some (SetVringAddr i (record { queue_max_size = 0; queue_size = 0; flags = f; desc_table_addr = d; used_ring_addr = u; avail_ring_addr = a; log_addr = l }))
set_vring_addr _ = None

-- the area for descriptors in flight
abbrev pub area : (size offset queues descriptors : List ℕ) → Option VhostUserInflight
area size offset queues descriptors = do
  s ← u64 size
  o ← u64 offset
  q ← u16 queues
  d ← u16 descriptors
  Some (record { mmap_size = s; mmap_offset = o; num_queues = q; queue_size = d })

-- the area that is asked for
abbrev pub get_inflight_fd : List (List ℕ) → Option Call
get_inflight_fd (size ∷ offset ∷ queues ∷ descriptors ∷ []) = option_map GetInflightFd (area size offset queues descriptors)
get_inflight_fd _ = None

-- the area that is given, and its handle
abbrev pub set_inflight_fd : List (List ℕ) → Option Call
set_inflight_fd (size ∷ offset ∷ queues ∷ descriptors ∷ mapping ∷ []) = do
  a ← area size offset queues descriptors
  option_map (SetInflightFd a) (handle mapping)
set_inflight_fd _ = None

-- the buffer that an answer of so many bytes fills: zeros, 4096 of them at most
abbrev pub buffer : ℕ → List ℕ
buffer size = replicate (min size 4096) 0

-- offset and size of a part of configuration space, and its flags
abbrev pub get_config : List (List ℕ) → Option Call
get_config = three u32 u32 config_flags (λ offset size flags. GetConfig offset size flags (buffer size))

-- the offset of a part of configuration space, its flags and its bytes
abbrev pub set_config : List (List ℕ) → Option Call
set_config = three u32 config_flags byte_string SetConfig

-- which way the state of the device goes, in which phase, and over which handle
abbrev pub set_device_state_fd : List (List ℕ) → Option Call
set_device_state_fd = three direction phase handle (λ d p h. SetDeviceStateFd (record { direction = d; phase = p }) h)

-- each call's name, and the call of its arguments
abbrev pub calls : List (List ℕ × (List (List ℕ) → Option Call))
calls =
    (codes "get_features", bare GetFeatures)
    ∷ (codes "set_owner", bare SetOwner)
    ∷ (codes "reset_owner", bare ResetOwner)
    ∷ (codes "get_protocol_features", bare GetProtocolFeatures)
    ∷ (codes "get_queue_num", bare GetQueueNum)
    ∷ (codes "reset_device", bare ResetDevice)
    ∷ (codes "get_max_mem_slots", bare GetMaxMemSlots)
    ∷ (codes "get_shmem_config", bare GetShmemConfig)
    ∷ (codes "check_device_state", bare CheckDeviceState)
    ∷ (codes "postcopy_advise", bare PostcopyAdvise)
    ∷ (codes "postcopy_listen", bare PostcopyListen)
    ∷ (codes "postcopy_end", bare PostcopyEnd)
    ∷ (codes "set_features", one u64 SetFeatures)
    ∷ (codes "set_protocol_features", one protocol_features SetProtocolFeatures)
    ∷ (codes "get_vring_base", one u64 GetVringBase)
    ∷ (codes "set_log_fd", one handle SetLogFd)
    ∷ (codes "set_backend_request_fd", one handle SetBackendRequestFd)
    ∷ (codes "get_shared_object", one object_name GetSharedObject)
    ∷ (codes "postcopy_ack_mem_regions", one request PostcopyAckMemRegions)
    ∷ (codes "set_mtu", one u16 SetMtu)
    ∷ (codes "set_hdr_flags", one header_flags SetHdrFlags)
    ∷ (codes "set_vring_num", two u64 u16 SetVringNum)
    ∷ (codes "set_vring_base", two u64 u16 SetVringBase)
    ∷ (codes "set_packed_vring_base", two u64 u32 SetVringBase)
    ∷ (codes "set_vring_call", two u64 handle (λ i h. SetVringCall i (Some h)))
    ∷ (codes "set_vring_kick", two u64 handle (λ i h. SetVringKick i (Some h)))
    ∷ (codes "set_vring_err", two u64 handle (λ i h. SetVringErr i (Some h)))
    ∷ (codes "set_vring_enable", two u64 enabled SetVringEnable)
    ∷ (codes "set_log_base", set_log_base)
    ∷ (codes "set_vring_addr", set_vring_addr)
    ∷ (codes "get_inflight_fd", get_inflight_fd)
    ∷ (codes "set_inflight_fd", set_inflight_fd)
    ∷ (codes "add_mem_region", add_mem_region)
    ∷ (codes "remove_mem_region", remove_mem_region)
    ∷ (codes "set_device_state_fd", set_device_state_fd)
    ∷ (codes "set_mem_table", set_mem_table)
    ∷ (codes "get_config", get_config)
    ∷ (codes "set_config", set_config)
    ∷ []

-- what stands under a name
abbrev pub named : {A : Type 0} → List (List ℕ × A) → List ℕ → Option A
named [] name = None
named (row ∷ rows) name = if bytes_eq name row.0 then Some row.1 else named rows name

-- the call of a name and its arguments
abbrev pub call_named : List (List ℕ) → Option Call
call_named [] = None
call_named (name ∷ args) = named calls name >>= λ call. call args

-- the call that a line asks for, where it asks for one and says no more
abbrev pub call_in : List ℕ → Option Call
call_in line = if is_utf8 line then call_named (words line) else None
