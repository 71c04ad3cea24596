-- Worked rows on replies that a frontend takes: each holds by computing.
use Rattle.std.proofs.Common.{◌≡◌, ℕ, List, [], ◌∷◌, ◌++◌, replicate, Option, Some, None, Ok, Err, refl}
use Rattle.vhost_message.specs.Header.{Header, header_text}
use Rattle.vhost_message.specs.Text.{digits}
use Rattle.vhost_protocol.specs.AnswerTable.{Answered, answered}
use Rattle.vhost_protocol.specs.declared.asked.Awaited.TheVariants.{Ack, Reply}
use Rattle.vhost_protocol.specs.declared.asked.Shape.TheVariants as shape
use Rattle.vhost_protocol.specs.Error.{PartialMessage, InvalidMessage, InvalidParam, IncorrectFds, BackendInternalError}
use Rattle.vhost_protocol.specs.FrontendCall.{GetFeatures, GetQueueNum, GetConfig, GetSharedObject, SetOwner, SetMemTable, SetDeviceStateFd, Info, Nothing, Number, ConfigOf, HandleOf, StateHandle, Bases, Frontend, new_frontend}
use Rattle.vhost_protocol.specs.ReplySplit.{reply_split, received, bare_or_reply}
use Rattle.vhost_protocol.specs.Stream.{Cell, plain, carrying}
use Rattle.vhost_protocol.specs.Take.{take}

header : ℕ → ℕ → ℕ → Header
header code flags size = record { code = code; flags = flags; size = size }

-- a message of one number
u64 : ℕ → ℕ → ℕ → ℕ → List ℕ
u64 code flags size n = header_text (header code flags size) ++ digits 8 n

f : Frontend
f = new_frontend 2

-- ---- replies to GET_FEATURES, which was sent without flags

features : List (Cell ℕ) → Option (Answered ℕ) × List (Cell ℕ)
features cells = take GetFeatures (Reply shape.U64) (header 1 1 0) f cells

known : Option (Answered ℕ)
known = Some (answered (record f { offered = 0x40000003 }) (Ok (Number 0x40000003)))

invalid : Option (Answered ℕ)
invalid = Some (answered f (Err InvalidMessage))

ours : features (plain (u64 1 5 8 0x40000003)) ≡ (known, [])
unfolding features reply_split received header u64 f known
ours = refl

no_reply_flag : features (plain (u64 1 1 8 0x40000003)) ≡ (invalid, [])
unfolding features reply_split received header u64 f invalid
no_reply_flag = refl

other_code : features (plain (u64 2 5 8 0x40000003)) ≡ (invalid, [])
unfolding features reply_split received header u64 f invalid
other_code = refl

unknown_code : features (plain (u64 45 5 8 0x40000003)) ≡ (invalid, [])
unfolding features reply_split received header u64 f invalid
unknown_code = refl

with_handle : features (carrying (7 ∷ []) (u64 1 5 8 0x40000003)) ≡ (invalid, [])
unfolding features reply_split received header u64 f invalid
with_handle = refl

-- a handle on a later byte is dropped
later_handle : features (plain (header_text (header 1 5 8)) ++ carrying (7 ∷ []) (digits 8 0x40000003)) ≡ (known, [])
unfolding features reply_split received header u64 f known
later_handle = refl

size_zero : features (plain (u64 1 5 0 0x40000003)) ≡ (known, [])
unfolding features reply_split received header u64 f known
size_zero = refl

short : features (plain (replicate 19 1)) ≡ (Some (answered f (Err PartialMessage)), [])
unfolding features reply_split received header f
short = refl

nothing : features [] ≡ (Some (answered f (Err PartialMessage)), [])
unfolding features reply_split received header f
nothing = refl

-- a request that was sent with REPLY has no reply: nothing is read
sent_as_reply : take GetFeatures (Reply shape.U64) (header 1 5 0) f (plain (u64 1 5 8 3)) ≡ (Some (answered f (Err InvalidParam)), plain {H = ℕ} (u64 1 5 8 3))
unfolding header
sent_as_reply = refl

-- and no acknowledgement answers it: what came is read
sent_as_reply_acked : take SetOwner Ack (header 3 13 0) f (plain (u64 3 5 8 0)) ≡ (Some (answered {H = ℕ} f (Err InvalidMessage)), [])
unfolding reply_split received header u64 f
sent_as_reply_acked = refl

-- ---- other numbers

queues : ℕ → Option (Answered ℕ) × List (Cell ℕ)
queues n = take GetQueueNum (Reply shape.U64) (header 17 1 0) f (plain (u64 17 5 8 n))

queues_most : queues 0x8000 ≡ (Some (answered (record f { max_queue_num = 0x8000 }) (Ok (Number 0x8000))), [])
unfolding queues reply_split received header u64 f
queues_most = refl

queues_beyond : queues 0x8001 ≡ (Some (answered f (Err InvalidMessage)), [])
unfolding queues reply_split received header u64 f
queues_beyond = refl

-- ---- acknowledgements

owner : ℕ → ℕ → Option (Answered ℕ) × List (Cell ℕ)
owner size n = take SetOwner Ack (header 3 9 0) f (plain (u64 3 5 size n ++ 9 ∷ []))

agreed : owner 8 0 ≡ (Some (answered f (Ok Nothing)), plain (9 ∷ []))
unfolding owner reply_split received header u64 f
agreed = refl

refused : owner 8 1 ≡ (Some (answered f (Err BackendInternalError)), plain (9 ∷ []))
unfolding owner reply_split received header u64 f
refused = refl

-- the size field of an acknowledgement is not compared
other_size : owner 16 0 ≡ (Some (answered f (Ok Nothing)), plain (9 ∷ []))
unfolding owner reply_split received header u64 f
other_size = refl

-- ---- configuration bytes

config : ℕ → List (Cell ℕ) → Option (Answered ℕ) × List (Cell ℕ)
config offset cells = take (GetConfig offset 4 0 (replicate 4 0)) (Reply shape.Config) (header 24 1 16) f cells

-- a bare reply is taken whole, and nothing more
bare : config 0x200 (plain (header_text (header 24 5 12) ++ digits 4 0x200 ++ digits 8 0 ++ 9 ∷ [])) ≡ (Some (answered f (Err BackendInternalError)), plain (9 ∷ []))
unfolding config reply_split received bare_or_reply header f
bare = refl

-- with a handle it is none: it is read on, and its record is not valid
bare_with_handle : config 0x200 (carrying (7 ∷ []) (header_text (header 24 5 12) ++ digits 4 0x200 ++ digits 8 0 ++ 9 ∷ 9 ∷ 9 ∷ 9 ∷ 9 ∷ [])) ≡ (Some (answered f (Err InvalidMessage)), plain (9 ∷ []))
unfolding config reply_split received bare_or_reply header f
bare_with_handle = refl

found : config 0x100 (plain (header_text (header 24 5 16) ++ digits 4 0x100 ++ digits 4 4 ++ digits 4 0 ++ replicate 4 0xa5)) ≡ (Some (answered f (Ok (ConfigOf (record { offset = 0x100; size = 4; flags = 0 }) (replicate 4 0xa5)))), [])
unfolding config reply_split received bare_or_reply header f
found = refl

-- the payload is short
half_found : config 0x100 (plain (header_text (header 24 5 16) ++ digits 4 0x100 ++ digits 4 4 ++ digits 4 0 ++ replicate 3 0xa5)) ≡ (Some (answered f (Err InvalidMessage)), [])
unfolding config reply_split received bare_or_reply header f
half_found = refl

-- into an empty buffer nothing is read
no_buffer : take (GetConfig 0x100 4 0 []) (Reply shape.Config) (header 24 1 12) f (plain (header_text (header 24 5 12))) ≡ (Some (answered f (Err InvalidParam)), plain {H = ℕ} (header_text (header 24 5 12)))
unfolding header
no_buffer = refl

-- ---- handles

object : List ℕ → Option (Answered ℕ) × List (Cell ℕ)
object handles = take (GetSharedObject (record { uuid = replicate 16 1 })) (Reply shape.Empty) (header 41 1 16) f (carrying handles (header_text (header 41 5 0)))

object_given : object (7 ∷ []) ≡ (Some (answered f (Ok (HandleOf 7))), [])
unfolding object reply_split received header f
object_given = refl

object_missing : object [] ≡ (Some (answered f (Err InvalidMessage)), [])
unfolding object reply_split received header f
object_missing = refl

object_twice : object (7 ∷ 8 ∷ []) ≡ (Some (answered f (Err IncorrectFds)), [])
unfolding object reply_split received header f
object_twice = refl

-- ---- the transfer of the device's state

state : ℕ → List ℕ → Option (Answered ℕ)
state n handles = (take (SetDeviceStateFd (record { direction = 0; phase = 0 }) 9) (Reply shape.U64) (header 42 1 8) f (carrying handles (u64 42 5 8 n))).0

state_none : state 0x100 [] ≡ Some (answered f (Ok (StateHandle None)))
unfolding state reply_split received header u64 f
state_none = refl

state_failed : state 0x101 [] ≡ Some (answered f (Err BackendInternalError))
unfolding state reply_split received header u64 f
state_failed = refl

state_given : state 0 (55 ∷ []) ≡ Some (answered f (Ok (StateHandle (Some 55))))
unfolding state reply_split received header u64 f
state_given = refl

state_two : state 0 (55 ∷ 56 ∷ []) ≡ Some (answered f (Err IncorrectFds))
unfolding state reply_split received header u64 f
state_two = refl

state_no_handle : state 0 [] ≡ Some (answered f (Err BackendInternalError))
unfolding state reply_split received header u64 f
state_no_handle = refl

-- ---- a table of regions, while listening

info : Info ℕ
info = record { region = record { guest_phys_addr = 0; memory_size = 0x1000; user_addr = 0x7000; mmap_offset = 0 }; handle = Some 1 }

-- the reply for one region of 4096 bytes
regions : ℕ → ℕ → Option (Answered ℕ)
regions guest size = (take (SetMemTable (info ∷ [])) (Reply shape.Memory) (header 5 1 40) f (plain (header_text (header 5 5 size) ++ digits 4 1 ++ digits 4 0 ++ digits 8 guest ++ digits 8 0x1000 ++ digits 8 0xabcd ++ digits 8 0))).0

regions_mapped : regions 0 40 ≡ Some (answered f (Ok (Bases (Some (0xabcd ∷ [])))))
unfolding regions reply_split received header info f
regions_mapped = refl

regions_other : regions 0x1000 40 ≡ Some (answered f (Err InvalidMessage))
unfolding regions reply_split received header info f
regions_other = refl

regions_other_size : regions 0 8 ≡ Some (answered f (Err InvalidMessage))
unfolding regions reply_split received header info f
regions_other_size = refl
