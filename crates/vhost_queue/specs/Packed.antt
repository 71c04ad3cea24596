-- Where a device stands in a packed queue, and what its steps make of it: virtio 1.2, 2.8.
use Rattle.std.specs.Prelude.{◌≡◌, ℕ, ◌+◌, ◌≤◌, Bool, true, false, not, ◌&&◌, ◌||◌, ◌⊎◌, List, ◌==◌, nat_lt, nat_le, bit_and, bit_or, Option, Some, None, Result, Ok, Err, if◌then◌else◌, is_some, slice_index_or, slice_set, replicate}
use Rattle.vhost_queue.specs.Chain.{Following, begun, following, segment_limit, step}
use Rattle.vhost_queue.specs.declared.descriptor.Descriptor.{Descriptor}
use Rattle.vhost_queue.specs.declared.descriptor.Segment.{Segment}
use Rattle.vhost_queue.specs.declared.error.Error.{Error}
use Rattle.vhost_queue.specs.declared.error.Error.TheVariants.{NeedsReset, NotInTable, HeadInUse, NotHandedOut, ChainEnded, ChainTooLong}
use Rattle.vhost_queue.specs.declared.memory.GuestRegion.{GuestRegion}
use Rattle.vhost_queue.specs.declared.packed.PackedDescriptor.{PackedDescriptor}
use Rattle.vhost_queue.specs.declared.packed.PackedQueue.{PackedQueue}
use Rattle.vhost_queue.specs.declared.packed_rings.PackedRings.{PackedRings}
use Rattle.vhost_queue.specs.declared.wrap.Position.{Position}
use Rattle.vhost_queue.specs.Segment.{goes_on, is_indirect}
use Rattle.vhost_queue.specs.Wrap.{advanced, is_available, Passes}
use Rattle.vhost_queue.specs.declared.packed.PackedConfig.{PackedConfig}

-- Where the device is with what is available and with what was used, and where it was when the driver was last told; of how many
-- descriptors each buffer is that the device has, 0 where it has none; the chain that is followed, of how many of the ring's
-- descriptors it is so far, and whether it is still in the ring; and whether the driver broke a rule.
pub record State : Type 0 where
  pub avail : Position
  pub used : Position
  pub signalled : Option Position
  pub out : List ℕ
  pub chain : Following
  pub slots : ℕ
  pub in_ring : Bool
  pub needs_reset : Bool

abbrev pub state : PackedQueue → State
state q = record { avail = q.avail; used = q.used; signalled = q.signalled; out = q.out.items; chain = following q.chain; slots = q.slots; in_ring = q.in_ring; needs_reset = q.needs_reset }

-- the driver broke a rule
abbrev pub broken : State → State
broken s = record s { needs_reset = true }

-- what a refused step leaves: the driver broke a rule, unless the chain had ended
abbrev pub refused_step : State → State
refused_step s = if is_some s.chain.next then broken s else s

-- the chain at the next place is followed, if the flags there say that it is available
abbrev pub beginning : State → Result Following Error → Result (Bool × State) Error
beginning s (Ok chain) = Ok (true, record s { chain = chain; slots = 0; in_ring = true })
beginning s (Err e) = Err e

abbrev pub popped : PackedQueue → State → ℕ → Result (Bool × State) Error
popped q s flags =
    if s.needs_reset then Err NeedsReset
    else if not (is_available s.avail.wrap flags) then Ok (false, s)
    else beginning s (begun q.rings.desc_ring q.rings.size (segment_limit q.rings.size q.indirect_desc) q.indirect_desc s.avail.index)

-- a chain that was not used before a crash is followed again, at the next place, by what the inflight region has of its descriptors
abbrev pub resubmitted : PackedQueue → State → Result (Bool × State) Error
resubmitted q s =
    if s.needs_reset then Err NeedsReset
    else beginning s (begun q.rings.desc_ring q.rings.size (segment_limit q.rings.size q.indirect_desc) q.indirect_desc s.avail.index)

-- the place behind the i-th
abbrev pub following_place : ℕ → ℕ → ℕ
following_place size i = if nat_lt (i + 1) size then i + 1 else 0

-- A packed chain is a split one, whose next descriptor is always the one behind. In an indirect table all descriptors are the
-- chain's, whatever their flags say.
abbrev pub as_split : State → ℕ → PackedDescriptor → Descriptor
as_split s i d = record {
  addr = d.addr;
  len = d.len;
  flags = if s.in_ring then d.flags else if nat_lt (i + 1) s.chain.entries then bit_or (bit_and d.flags 6) 1 else bit_and d.flags 6;
  next = following_place s.chain.entries i;
}

-- whether the descriptor is the chain's last in the ring, whose id is the chain's
abbrev pub is_last : State → PackedDescriptor → Bool
is_last s d = s.in_ring && (is_indirect d.flags || not (goes_on d.flags))

-- what is wrong with its place, or its id
abbrev pub fault_of : ℕ → State → PackedDescriptor → Option Error
fault_of size s d =
    if s.in_ring && nat_le size s.slots then Some ChainTooLong
    else if is_last s d && nat_le size d.id then Some NotInTable
    else if is_last s d && not (slice_index_or s.out d.id 0 == 0) then Some HeadInUse
    else None

-- the chain goes on, and is the device's once its last descriptor in the ring was read
abbrev pub gone_on : ℕ → State → PackedDescriptor → Following → State
gone_on size s d chain =
    if is_last s d then record s { chain = chain; slots = s.slots + 1; in_ring = false; out = slice_set s.out d.id (s.slots + 1); avail = advanced size s.avail (s.slots + 1) }
    else if s.in_ring then record s { chain = chain; slots = s.slots + 1 }
    else record s { chain = chain }

abbrev pub with_chain : ℕ → State → PackedDescriptor → Option Error → Result (Option Segment × Following) Error → Result (Option Segment × State) Error
with_chain size s d (Some e) _ = Err e
with_chain size s d None (Ok out) = Ok (out.0, gone_on size s d out.1)
with_chain size s d None (Err e) = Err e

-- the chain goes on with the rest of a descriptor that was read before
abbrev pub resumed : State → Result (Option Segment × Following) Error → Result (Option Segment × State) Error
resumed s (Ok out) = Ok (out.0, record s { chain = out.1 })
resumed s (Err e) = Err e

abbrev pub step_next : List GuestRegion → ℕ → State → PackedDescriptor → Option ℕ → Result (Option Segment × State) Error
step_next rs size s d (Some i) =
    if is_some s.chain.rest then resumed s (step rs s.chain (as_split s i d))
    else with_chain size s d (fault_of size s d) (step rs s.chain (as_split s i d))
step_next rs size s d None = Err ChainEnded

-- the next descriptor of the chain was read
abbrev pub stepped : List GuestRegion → ℕ → State → PackedDescriptor → Result (Option Segment × State) Error
stepped rs size s d = if s.needs_reset then Err NeedsReset else step_next rs size s d s.chain.next

-- the device is done with the chain of this id
abbrev pub used : ℕ → State → ℕ → Result State Error
used size s id =
    if slice_index_or s.out id 0 == 0 then Err NotHandedOut
    else Ok (record s { used = advanced size s.used (slice_index_or s.out id 0); out = slice_set s.out id 0 })

-- the flags of a used descriptor
abbrev pub used_flags : Bool → ℕ → ℕ
used_flags wrap len = (if wrap then 32896 else 0) + (if len == 0 then 0 else 2)

-- whether the driver is to be told: where it asks to be told at a place, if that was passed since it was last told
abbrev pub IsToldOf : ℕ → Option Position → Position → Position → Type 0
IsToldOf size None new event = Unit {0}
IsToldOf size (Some old) new event = (size ≤ event.index) ⊎ Passes size old new event

-- A new queue: it begins where it was told to, and the device has no chain.
pub record IsNew (r : PackedRings) (c : PackedConfig) (q : PackedQueue) : Type 0 where
  pub rings : q.rings ≡ r
  pub event_idx : q.event_idx ≡ c.event_idx
  pub indirect_desc : q.indirect_desc ≡ c.indirect_desc
  pub avail : q.avail ≡ c.avail
  pub used : (q.used ≡ c.used) × (q.signalled ≡ None)
  pub none_out : q.out.items ≡ replicate r.size 0
  pub no_chain : (following q.chain).next ≡ None
  pub runs : q.needs_reset ≡ false

-- what no step changes: where the queue's parts are mapped, and what was negotiated
abbrev pub IsSameQueue : PackedQueue → PackedQueue → Type 0
IsSameQueue q p = (p.rings ≡ q.rings) × (p.event_idx ≡ q.event_idx) × (p.indirect_desc ≡ q.indirect_desc)
