-- The answer table: what a caller is answered, from what was awaited and what the handler let the frontend know.
-- It reads from its end: `answer` is the table, `from_reply` above it has the replies, and the words of both stand first.
use Rattle.std.specs.Prelude.{ℕ, Bool, true, false, ◌&&◌, List, [], ◌∷◌, length, map, Option, Some, None, Result, Ok, Err, if◌then◌else◌, ◌==◌, nat_le, bit_and}
use Rattle.vhost_message.specs.declared.limits.TheConstants.{VHOST_USER_MAX_VRINGS}
use Rattle.vhost_message.specs.declared.postcopy.PostcopyState.TheVariants.{Advise, Listen, End}
use Rattle.vhost_message.specs.declared.records.config.VhostUserConfig.{VhostUserConfig}
use Rattle.vhost_message.specs.declared.records.inflight.VhostUserInflight.{VhostUserInflight}
use Rattle.vhost_message.specs.declared.records.memory.VhostUserMemoryRegion.{VhostUserMemoryRegion}
use Rattle.vhost_message.specs.Valid.{is_valid_inflight, is_valid_log}
use Rattle.vhost_protocol.specs.Ask.{regions_in, config}
use Rattle.vhost_protocol.specs.declared.asked.Awaited.{Awaited}
use Rattle.vhost_protocol.specs.declared.asked.Awaited.TheVariants.{Nobody, Ack, Reply}
use Rattle.vhost_protocol.specs.Error.{Error, InvalidParam, InvalidMessage, PartialMessage, IncorrectFds, BackendInternalError}
use Rattle.vhost_protocol.specs.FrontendCall.{FrontendCall, GetFeatures, GetProtocolFeatures, GetQueueNum, SetMemTable, SetLogBase, GetVringBase, GetConfig, GetSharedObject, GetInflightFd, GetMaxMemSlots, AddMemRegion, GetShmemConfig, SetDeviceStateFd, CheckDeviceState, PostcopyAdvise, PostcopyListen, PostcopyEnd, Value, Nothing, Number, Bases, Base, ConfigOf, HandleOf, InflightOf, StateHandle, ShmemOf, Frontend}
use Rattle.vhost_protocol.specs.Profile.{is_standard}
use Rattle.vhost_protocol.specs.Session.{is_listen}
use Rattle.vhost_protocol.specs.Served.{Served, Silent, Acknowledged, Replied}
use Rattle.vhost_protocol.specs.Written.{Payload, Empty, U64, Regions, OneRegion, Shmem, RingState, ConfigBytes, InflightArea, LogArea}

-- the caller's result, and the frontend's session from then on
pub record Answered (H : Type 0) : Type 0 where
  pub result : Result (Value H) Error
  pub session : Frontend

-- a result and a session
abbrev pub answered : {H : Type 0} → Frontend → Result (Value H) Error → Answered H
answered f result = record { result = result; session = f }

-- ---- without a reply

-- what a call answers that brings nothing back
abbrev pub plain_value : {H : Type 0} → FrontendCall H → Value H
plain_value (SetMemTable infos) = Bases None
plain_value (AddMemRegion info) = Base None
plain_value _ = Nothing

-- the session after a call that succeeded
abbrev pub after_success : {H : Type 0} → Frontend → FrontendCall H → Frontend
after_success f PostcopyListen = record f { postcopy = Listen }
after_success f PostcopyEnd = record f { postcopy = End }
after_success f _ = f

-- nothing came where a reply was awaited
abbrev pub unanswered : {H : Type 0} → FrontendCall H → Error
unanswered (GetConfig offset size flags []) = InvalidParam
unanswered _ = PartialMessage

-- ---- replies

-- no handle may come
abbrev pub alone : {H A : Type 0} → List H → Result A Error → Result A Error
alone [] result = result
alone (h ∷ hs) result = Err InvalidMessage

-- exactly one handle comes
abbrev pub with_one : {H A : Type 0} → List H → (H → A) → Result A Error
with_one [] value = Err InvalidMessage
with_one (h ∷ []) value = Ok (value h)
with_one (h ∷ g ∷ hs) value = Err IncorrectFds

-- the same, where under Standard a reply without one says that there is no such thing
abbrev pub one_or_none : {H A : Type 0} → Frontend → List H → (H → A) → Result A Error
one_or_none f [] value = Err (if is_standard f.profile then BackendInternalError else InvalidMessage)
one_or_none f (h ∷ hs) value = with_one (h ∷ hs) value

-- a value where the test holds
abbrev pub only_if : {A : Type 0} → Bool → Error → A → Result A Error
only_if holds e a = if holds then Ok a else Err e

-- the same range of guest memory
abbrev pub is_same_range : VhostUserMemoryRegion → VhostUserMemoryRegion → Bool
is_same_range a b = a.guest_phys_addr == b.guest_phys_addr && a.memory_size == b.memory_size

-- as many, and the same one by one
abbrev pub are_same_ranges : List VhostUserMemoryRegion → List VhostUserMemoryRegion → Bool
are_same_ranges [] [] = true
are_same_ranges (a ∷ as') (b ∷ bs) = is_same_range a b && are_same_ranges as' bs
are_same_ranges _ _ = false

-- where the regions are mapped
abbrev pub bases_in : List VhostUserMemoryRegion → List ℕ
bases_in rs = map (λ r. r.user_addr) rs

-- Into an empty buffer nothing is read. A bare record of size 0 says that the device has no such bytes.
abbrev pub config_reply : {H : Type 0} → VhostUserConfig → (buffer : List ℕ) → List H → VhostUserConfig → List ℕ → Result (Value H) Error
config_reply asked [] handles c bytes = Err InvalidParam
config_reply asked (b ∷ buffer) handles c bytes = alone handles (
    if c.size == 0 && length bytes == 0 then Err BackendInternalError
    else only_if (c.offset == asked.offset && c.size == asked.size && c.size == length (b ∷ buffer)) InvalidMessage (ConfigOf c bytes))

-- 0 with a handle, or 0x100 without ("Migrating backend state")
abbrev pub state_reply : {H : Type 0} → ℕ → List H → Result (Value H) Error
state_reply n [] = only_if (n == 0x100) BackendInternalError (StateHandle None)
state_reply n (h ∷ []) = only_if (n == 0) BackendInternalError (StateHandle (Some h))
state_reply n (h ∷ g ∷ hs) = Err (if n == 0 then IncorrectFds else BackendInternalError)

-- once a reply comes without an error, the session changes
abbrev pub changed : {H : Type 0} → Frontend → Frontend → Result (Value H) Error → Answered H
changed f g (Ok v) = answered g (Ok v)
changed f g (Err e) = answered f (Err e)

-- A region with its handle. Under Standard one of size 0 without a handle says that there is none.
abbrev pub inflight_reply : {H : Type 0} → Frontend → VhostUserInflight → List H → Result (Value H) Error
inflight_reply f i [] = Err (if is_standard f.profile && i.mmap_size == 0 then BackendInternalError else InvalidMessage)
inflight_reply f i (h ∷ hs) = with_one (h ∷ hs) (InflightOf i)

-- the number of queues is taken over, unless it is beyond all queues ("Multiple queue support")
abbrev pub queues_reply : {H : Type 0} → Frontend → ℕ → Result (Value H) Error → Answered H
queues_reply f n result = if nat_le n VHOST_USER_MAX_VRINGS then changed f (record f { max_queue_num = n }) result else answered f (Err InvalidMessage)

-- Whether the end of postcopy succeeded. Whoever listened has ended, whatever became of it.
abbrev pub end_reply : {H : Type 0} → Frontend → ℕ → List H → Answered H
end_reply f n [] =
    if n == 0 then answered (record f { postcopy = End }) (Ok Nothing)
    else answered (if is_listen f.postcopy then record f { postcopy = End } else f) (Err BackendInternalError)
end_reply f n (h ∷ hs) = answered f (Err InvalidMessage)

-- ---- the table

-- the answer from a reply; a reply of another shape never comes
abbrev pub from_reply : {H : Type 0} → FrontendCall H → Frontend → Payload → List H → Option (Answered H)
from_reply GetFeatures f (U64 n) hs = Some (changed f (record f { offered = n }) (alone hs (Ok (Number n))))
from_reply GetProtocolFeatures f (U64 n) hs = Some (answered f (alone hs (Ok (Number (bit_and n 0x7FFFFF)))))
from_reply GetQueueNum f (U64 n) hs = Some (queues_reply f n (alone hs (Ok (Number n))))
from_reply (SetMemTable infos) f (Regions rs) hs =
    Some (answered f (alone hs (only_if (are_same_ranges (regions_in infos) rs) InvalidMessage (Bases (Some (bases_in rs))))))
-- under Standard the payload is not looked at: the specification wants none, and real handlers send what they like
from_reply (SetLogBase base region) f (LogArea l) hs = Some (answered f (alone hs (only_if (if is_standard f.profile then true else is_valid_log l) InvalidMessage Nothing)))
from_reply (GetVringBase i) f (RingState v) hs = Some (answered f (alone hs (Ok (Number v.num))))
from_reply (GetConfig offset size flags buffer) f (ConfigBytes c bytes) hs = Some (answered f (config_reply (config offset size flags) buffer hs c bytes))
from_reply (GetSharedObject name) f Empty hs = Some (answered f (one_or_none f hs HandleOf))
from_reply (GetInflightFd asked) f (InflightArea i) hs = Some (answered f (if is_valid_inflight i then inflight_reply f i hs else Err InvalidMessage))
from_reply GetMaxMemSlots f (U64 n) hs = Some (answered f (alone hs (Ok (Number n))))
from_reply (AddMemRegion info) f (OneRegion r) hs =
    Some (answered f (alone hs (only_if (is_same_range info.region r.region) InvalidMessage (Base (Some (r.region.user_addr))))))
from_reply GetShmemConfig f (Shmem c) hs = Some (answered f (alone hs (Ok (ShmemOf c))))
from_reply (SetDeviceStateFd t h) f (U64 n) hs = Some (answered f (state_reply n hs))
from_reply CheckDeviceState f (U64 n) hs = Some (answered f (alone hs (only_if (n == 0) BackendInternalError Nothing)))
from_reply PostcopyAdvise f Empty hs = Some (changed f (record f { postcopy = Advise }) (one_or_none f hs HandleOf))
from_reply PostcopyEnd f (U64 n) hs = Some (end_reply f n hs)
from_reply _ f payload hs = None

-- The caller's answer, from what was awaited and what came; pairs that give None never come.
abbrev pub answer : {H : Type 0} → FrontendCall H → Awaited → Frontend → Served H → Option (Answered H)
answer call Nobody f Silent = Some (answered (after_success f call) (Ok (plain_value call)))
answer call Ack f Silent = Some (answered f (Err PartialMessage))
answer call (Reply shape) f Silent = Some (answered f (Err (unanswered call)))
answer call Ack f (Acknowledged agreed) =
    Some (if agreed then answered (after_success f call) (Ok (plain_value call)) else answered f (Err BackendInternalError))
answer call (Reply shape) f (Replied payload handles) = from_reply call f payload handles
answer _ _ _ _ = None
