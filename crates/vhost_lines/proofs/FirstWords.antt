-- A call but a table of memory is known by the first seven words of its arguments.
use Rattle.std.proofs.Common.{◌≡◌, ℕ, Bool, true, false, List, [], ◌∷◌, take, Option, Some, option_map, if◌then◌else◌, refl, ap, codes}
use Rattle.std.specs.Prelude.{⊤}
use Rattle.std.specs.Str.{bytes_eq}
use Rattle.vhost_protocol.specs.FrontendCall.{GetFeatures, SetFeatures, SetOwner, ResetOwner, GetProtocolFeatures, SetProtocolFeatures, GetQueueNum, ResetDevice, SetLogFd, SetVringNum, SetVringBase, GetVringBase, SetVringCall, SetVringKick, SetVringErr, SetVringEnable, SetBackendRequestFd, GetSharedObject, GetMaxMemSlots, AddMemRegion, RemoveMemRegion, GetShmemConfig, CheckDeviceState, PostcopyAdvise, PostcopyListen, PostcopyEnd, PostcopyAckMemRegions, SetMtu, SetHdrFlags}
use Rattle.vhost_lines.specs.Arguments.{◌>>=◌, enabled, protocol_features, header_flags, handle, request, object_name}
use Rattle.vhost_lines.specs.Number.{u64, u32, u16}
use Rattle.vhost_lines.specs.Calls.{Call, calls, named, call_named, only_region, set_log_base, set_vring_addr, get_inflight_fd, set_inflight_fd, add_mem_region, remove_mem_region, set_device_state_fd, set_mem_table, get_config, set_config}
use Rattle.vhost_lines.specs.Read.{read_for}
use Rattle.vhost_lines.specs.Shapes.{bare, one, two}

abbrev Args : Type 0
Args = List (List ℕ)

-- seven words are enough
abbrev IsShort : (Args → Option Call) → Type 0
IsShort call = (args : Args) → call (take 7 args) ≡ call args

bare-short : (call : Call) → IsShort (bare call)
bare-short call [] = refl
bare-short call (a ∷ args) = refl

one-short : {A : Type 0} (first : List ℕ → Option A) (call : A → Call) → IsShort (one first call)
one-short first call [] = refl
one-short first call (a ∷ []) = refl
one-short first call (a ∷ b ∷ args) = refl

two-short : {A B : Type 0} (first : List ℕ → Option A) (second : List ℕ → Option B) (call : A → B → Call) → IsShort (two first second call)
two-short first second call [] = refl
two-short first second call (a ∷ []) = refl
two-short first second call (a ∷ b ∷ []) = refl
two-short first second call (a ∷ b ∷ c ∷ args) = refl

get_config-short : IsShort get_config
get_config-short [] = refl
get_config-short (a ∷ []) = refl
get_config-short (a ∷ b ∷ []) = refl
get_config-short (a ∷ b ∷ c ∷ []) = refl
get_config-short (a ∷ b ∷ c ∷ d ∷ args) = refl

set_config-short : IsShort set_config
set_config-short [] = refl
set_config-short (a ∷ []) = refl
set_config-short (a ∷ b ∷ []) = refl
set_config-short (a ∷ b ∷ c ∷ []) = refl
set_config-short (a ∷ b ∷ c ∷ d ∷ args) = refl

set_device_state_fd-short : IsShort set_device_state_fd
set_device_state_fd-short [] = refl
set_device_state_fd-short (a ∷ []) = refl
set_device_state_fd-short (a ∷ b ∷ []) = refl
set_device_state_fd-short (a ∷ b ∷ c ∷ []) = refl
set_device_state_fd-short (a ∷ b ∷ c ∷ d ∷ args) = refl

set_log_base-short : IsShort set_log_base
set_log_base-short [] = refl
set_log_base-short (a ∷ []) = refl
set_log_base-short (a ∷ b ∷ []) = refl
set_log_base-short (a ∷ b ∷ c ∷ []) = refl
set_log_base-short (a ∷ b ∷ c ∷ d ∷ []) = refl
set_log_base-short (a ∷ b ∷ c ∷ d ∷ e ∷ args) = refl

set_vring_addr-short : IsShort set_vring_addr
set_vring_addr-short [] = refl
set_vring_addr-short (a ∷ []) = refl
set_vring_addr-short (a ∷ b ∷ []) = refl
set_vring_addr-short (a ∷ b ∷ c ∷ []) = refl
set_vring_addr-short (a ∷ b ∷ c ∷ d ∷ []) = refl
set_vring_addr-short (a ∷ b ∷ c ∷ d ∷ e ∷ []) = refl
set_vring_addr-short (a ∷ b ∷ c ∷ d ∷ e ∷ f ∷ []) = refl
set_vring_addr-short (a ∷ b ∷ c ∷ d ∷ e ∷ f ∷ g ∷ args) = refl

get_inflight_fd-short : IsShort get_inflight_fd
get_inflight_fd-short [] = refl
get_inflight_fd-short (a ∷ []) = refl
get_inflight_fd-short (a ∷ b ∷ []) = refl
get_inflight_fd-short (a ∷ b ∷ c ∷ []) = refl
get_inflight_fd-short (a ∷ b ∷ c ∷ d ∷ []) = refl
get_inflight_fd-short (a ∷ b ∷ c ∷ d ∷ e ∷ args) = refl

set_inflight_fd-short : IsShort set_inflight_fd
set_inflight_fd-short [] = refl
set_inflight_fd-short (a ∷ []) = refl
set_inflight_fd-short (a ∷ b ∷ []) = refl
set_inflight_fd-short (a ∷ b ∷ c ∷ []) = refl
set_inflight_fd-short (a ∷ b ∷ c ∷ d ∷ []) = refl
set_inflight_fd-short (a ∷ b ∷ c ∷ d ∷ e ∷ []) = refl
set_inflight_fd-short (a ∷ b ∷ c ∷ d ∷ e ∷ f ∷ args) = refl

only_region-short : (args : Args) → only_region (take 7 args) ≡ only_region args
only_region-short [] = refl
only_region-short (a ∷ []) = refl
only_region-short (a ∷ b ∷ []) = refl
only_region-short (a ∷ b ∷ c ∷ []) = refl
only_region-short (a ∷ b ∷ c ∷ d ∷ []) = refl
only_region-short (a ∷ b ∷ c ∷ d ∷ e ∷ []) = refl
only_region-short (a ∷ b ∷ c ∷ d ∷ e ∷ f ∷ args) = refl

-- what is read for a name is enough for a row, where it is the name's
abbrev Reads : List ℕ → Args → List ℕ × (Args → Option Call) → Type 0
Reads name args row = bytes_eq name row.0 ≡ true → row.1 (read_for name (take 7 args) args) ≡ row.1 args

short : (name : List ℕ) (args : Args) (key : List ℕ) (call : Args → Option Call) → IsShort call → Reads name args (key, call)
short name args key call is _ = from (bytes_eq name (codes "set_mem_table")) where
  from : (b : Bool) → call (if b then args else take 7 args) ≡ call args
  from true = refl
  from false = is args

table : (name : List ℕ) (args : Args) → Reads name args (codes "set_mem_table", set_mem_table)
table name args is = ap (λ b. set_mem_table (if b then args else take 7 args)) is

-- each row is read enough
abbrev EachReads : List ℕ → Args → List (List ℕ × (Args → Option Call)) → Type 0
EachReads name args [] = ⊤
EachReads name args (row ∷ rows) = Reads name args row × EachReads name args rows

named-read : (name : List ℕ) (args : Args) (rows : List (List ℕ × (Args → Option Call))) → EachReads name args rows
    → (named rows name >>= λ call. call (read_for name (take 7 args) args)) ≡ (named rows name >>= λ call. call args)
named-read name args [] each = refl
named-read name args (row ∷ rows) each = from (bytes_eq name row.0) each.0 (named-read name args rows each.1) where
  from : (b : Bool) → (b ≡ true → row.1 (read_for name (take 7 args) args) ≡ row.1 args)
      → (named rows name >>= λ call. call (read_for name (take 7 args) args)) ≡ (named rows name >>= λ call. call args)
      → ((if b then Some row.1 else named rows name) >>= λ call. call (read_for name (take 7 args) args)) ≡ ((if b then Some row.1 else named rows name) >>= λ call. call args)
  from true here later = here refl
  from false here later = later

-- each row of the table
all_read : (name : List ℕ) (args : Args) → EachReads name args calls
all_read name args = (
  short name args (codes "get_features") (bare GetFeatures) (bare-short GetFeatures),
  (
    short name args (codes "set_owner") (bare SetOwner) (bare-short SetOwner),
    (
      short name args (codes "reset_owner") (bare ResetOwner) (bare-short ResetOwner),
      (
        short name args (codes "get_protocol_features") (bare GetProtocolFeatures) (bare-short GetProtocolFeatures),
        (
          short name args (codes "get_queue_num") (bare GetQueueNum) (bare-short GetQueueNum),
          (
            short name args (codes "reset_device") (bare ResetDevice) (bare-short ResetDevice),
            (
              short name args (codes "get_max_mem_slots") (bare GetMaxMemSlots) (bare-short GetMaxMemSlots),
              (
                short name args (codes "get_shmem_config") (bare GetShmemConfig) (bare-short GetShmemConfig),
                (
                  short name args (codes "check_device_state") (bare CheckDeviceState) (bare-short CheckDeviceState),
                  (
                    short name args (codes "postcopy_advise") (bare PostcopyAdvise) (bare-short PostcopyAdvise),
                    (
                      short name args (codes "postcopy_listen") (bare PostcopyListen) (bare-short PostcopyListen),
                      (
                        short name args (codes "postcopy_end") (bare PostcopyEnd) (bare-short PostcopyEnd),
                        (
                          short name args (codes "set_features") (one u64 SetFeatures) (one-short u64 SetFeatures),
                          (
                            short name args (codes "set_protocol_features") (one protocol_features SetProtocolFeatures) (one-short protocol_features SetProtocolFeatures),
                            (
                              short name args (codes "get_vring_base") (one u64 GetVringBase) (one-short u64 GetVringBase),
                              (
                                short name args (codes "set_log_fd") (one handle SetLogFd) (one-short handle SetLogFd),
                                (
                                  short name args (codes "set_backend_request_fd") (one handle SetBackendRequestFd) (one-short handle SetBackendRequestFd),
                                  (
                                    short name args (codes "get_shared_object") (one object_name GetSharedObject) (one-short object_name GetSharedObject),
                                    (
                                      short name args (codes "postcopy_ack_mem_regions") (one request PostcopyAckMemRegions) (one-short request PostcopyAckMemRegions),
                                      (
                                        short name args (codes "set_mtu") (one u16 SetMtu) (one-short u16 SetMtu),
                                        (
                                          short name args (codes "set_hdr_flags") (one header_flags SetHdrFlags) (one-short header_flags SetHdrFlags),
                                          (
                                            short name args (codes "set_vring_num") (two u64 u16 SetVringNum) (two-short u64 u16 SetVringNum),
                                            (
                                              short name args (codes "set_vring_base") (two u64 u16 SetVringBase) (two-short u64 u16 SetVringBase),
                                              (
                                                short name args (codes "set_packed_vring_base") (two u64 u32 SetVringBase) (two-short u64 u32 SetVringBase),
                                                (
                                                  short name args (codes "set_vring_call") (two u64 handle (λ i h. SetVringCall i (Some h))) (two-short u64 handle (λ i h. SetVringCall i (Some h))),
                                                  (
                                                    short name args (codes "set_vring_kick") (two u64 handle (λ i h. SetVringKick i (Some h))) (two-short u64 handle (λ i h. SetVringKick i (Some h))),
                                                    (
                                                      short name args (codes "set_vring_err") (two u64 handle (λ i h. SetVringErr i (Some h))) (two-short u64 handle (λ i h. SetVringErr i (Some h))),
                                                      (
                                                        short name args (codes "set_vring_enable") (two u64 enabled SetVringEnable) (two-short u64 enabled SetVringEnable),
                                                        (
                                                          short name args (codes "set_log_base") (set_log_base) (set_log_base-short),
                                                          (
                                                            short name args (codes "set_vring_addr") (set_vring_addr) (set_vring_addr-short),
                                                            (
                                                              short name args (codes "get_inflight_fd") (get_inflight_fd) (get_inflight_fd-short),
                                                              (
                                                                short name args (codes "set_inflight_fd") (set_inflight_fd) (set_inflight_fd-short),
                                                                (
                                                                  short name args (codes "add_mem_region") (add_mem_region) (λ words. ap (option_map AddMemRegion) (only_region-short words)),
                                                                  (
                                                                    short name args (codes "remove_mem_region") (remove_mem_region) (λ words. ap (option_map RemoveMemRegion) (only_region-short words)),
                                                                    (
                                                                      short name args (codes "set_device_state_fd") (set_device_state_fd) (set_device_state_fd-short),
                                                                      (
                                                                        table name args,
                                                                        (
                                                                          short name args (codes "get_config") (get_config) (get_config-short),
                                                                          (
                                                                            short name args (codes "set_config") (set_config) (set_config-short),
                                                                            tt,
                                                                          ),
                                                                        ),
                                                                      ),
                                                                    ),
                                                                  ),
                                                                ),
                                                              ),
                                                            ),
                                                          ),
                                                        ),
                                                      ),
                                                    ),
                                                  ),
                                                ),
                                              ),
                                            ),
                                          ),
                                        ),
                                      ),
                                    ),
                                  ),
                                ),
                              ),
                            ),
                          ),
                        ),
                      ),
                    ),
                  ),
                ),
              ),
            ),
          ),
        ),
      ),
    ),
  ),
)

-- the call of a name and its arguments is that of what is read for it
pub call_named-read : (name : List ℕ) (args : Args) → call_named (name ∷ read_for name (take 7 args) args) ≡ call_named (name ∷ args)
call_named-read name args = named-read name args calls (all_read name args)
