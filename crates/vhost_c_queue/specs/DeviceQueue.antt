-- What the calls of a program in C do to a queue of either layout.
use Rattle.std.specs.Prelude.{◌≡◌, ◌≢◌, ◌≤◌, ◌⊎◌, ◌↔◌, ℕ, ◌+◌, ◌*◌, ◌%◌, ◌^◌, ◌==◌, IsTrue, bit_and, Bool, true, false, List, Option, Some, None, Result, Ok, Err, MatchResult, if◌then◌else◌, ⊤, nat_lt}
use Rattle.vhost_queue.specs.Chain.{place_of}
use Rattle.vhost_queue.specs.Memory.{LiesIn}
use Rattle.vhost_queue.specs.Notification.{moved}
use Rattle.vhost_queue.specs.Packed as packed
use Rattle.vhost_queue.specs.PackedRings.{ring_range, driver_range, device_range, AreAt as ArePackedAt, Misses as MissesRing, Refuses as RefusesRing}
use Rattle.vhost_queue.specs.Places.{at}
use Rattle.vhost_queue.specs.Queue as split
use Rattle.vhost_queue.specs.Rings.{table_range, avail_range, used_range, AreAt, Misses, Refuses}
use Rattle.vhost_queue.specs.Wrap.{number_of, position_of}
use Rattle.vhost_queue.specs.declared.descriptor.Descriptor.{Descriptor}
use Rattle.vhost_queue.specs.declared.descriptor.Segment.{Segment}
use Rattle.vhost_queue.specs.declared.error.Error.{Error}
use Rattle.vhost_queue.specs.declared.error.Error.TheVariants.{InvalidBase, NothingAvailable, OutOfMemory}
use Rattle.vhost_queue.specs.declared.memory.GuestRegion.{GuestRegion}
use Rattle.vhost_queue.specs.declared.memory.HostRange.{HostRange}
use Rattle.vhost_queue.specs.declared.packed.PackedDescriptor.{PackedDescriptor}
use Rattle.vhost_queue.specs.declared.packed.PackedQueue.{PackedQueue}
use Rattle.vhost_queue.specs.declared.packed_rings.PackedRings.{PackedRings}
use Rattle.vhost_queue.specs.declared.queue.Queue.{Queue}
use Rattle.vhost_queue.specs.declared.rings.Rings.{Rings}
use Rattle.vhost_c_queue.specs.declared.device_queue.DeviceQueue.{DeviceQueue}
use Rattle.vhost_c_queue.specs.declared.device_queue.Ring.{Ring}
use Rattle.vhost_c_queue.specs.declared.device_queue.Ring.TheVariants.{Stopped, Split, Packed}
use Rattle.vhost_c_queue.specs.declared.records.EventWrite.{EventWrite}
use Rattle.vhost_c_queue.specs.declared.records.PackedRing.{PackedRing}
use Rattle.vhost_c_queue.specs.declared.records.SplitRing.{SplitRing}
use Rattle.vhost_c_queue.specs.declared.records.Used.{Used}
use Rattle.vhost_c_queue.specs.declared.refusal.Refusal.{Refusal}
use Rattle.vhost_c_queue.specs.declared.refusal.Refusal.TheVariants as refusal

-- the regions that its memory has
abbrev pub regions : DeviceQueue → List GuestRegion
regions d = d.memory.regions.items

-- a call by layout: what it does to a split queue, to a packed one, and what is so where there are no rings
abbrev pub ByLayout : (Queue → Queue → Type 0) → (PackedQueue → PackedQueue → Type 0) → Type 0 → Ring → Ring → Type 0
ByLayout S P N (Split q) (Split p) = S q p
ByLayout S P N (Packed q) (Packed p) = P q p
ByLayout S P N Stopped Stopped = N
ByLayout S P N _ _ = ⊥

-- a refusal by the queue, for this reason
abbrev pub Because : (Error → Type 0) → Refusal → Type 0
Because P f = (e : Error) × (f ≡ refusal.Queue e) × P e

-- 16 bytes, read as a descriptor of a packed queue
abbrev pub as_packed : Descriptor → PackedDescriptor
as_packed d = record { addr = d.addr; len = d.len; id = d.flags; flags = d.next }

-- the next descriptor of the chain was read
abbrev pub StepsSplit : List GuestRegion → Descriptor → Result (Option Segment) Refusal → Queue → Queue → Type 0
StepsSplit rs d r q p = MatchResult r (λ s. split.stepped rs (split.state q) d ≡ Ok (s, split.state p)) (Because (λ e. (split.stepped rs (split.state q) d ≡ Err e) × (split.state p ≡ split.refused_step (split.state q))))

abbrev pub StepsPacked : List GuestRegion → Descriptor → Result (Option Segment) Refusal → PackedQueue → PackedQueue → Type 0
StepsPacked rs d r q p = MatchResult r (λ s. packed.stepped rs q.rings.size (packed.state q) (as_packed d) ≡ Ok (s, packed.state p)) (Because (λ e. (packed.stepped rs q.rings.size (packed.state q) (as_packed d) ≡ Err e) × (packed.state p ≡ packed.refused_step (packed.state q))))

-- what is available was read: the index of a split queue's available ring, or the flags of a packed queue's next place
abbrev pub HearsSplit : ℕ → Result ℕ Refusal → Queue → Queue → Type 0
HearsSplit value r q p = MatchResult r (λ n. (n ≡ moved q.next_avail value) × (split.told q.rings.size (split.state q) value ≡ Ok (split.state p))) (Because (λ e. (split.told q.rings.size (split.state q) value ≡ Err e) × (split.state p ≡ split.broken (split.state q))))

abbrev pub HearsPacked : ℕ → Result ℕ Refusal → PackedQueue → PackedQueue → Type 0
HearsPacked value r q p = MatchResult r (λ n. packed.popped q (packed.state q) value ≡ Ok (nat_lt 0 n, packed.state p)) (Because (λ e. (packed.popped q (packed.state q) value ≡ Err e) × (packed.state p ≡ packed.state q)))

-- a head was read from the available ring, or is taken again; and what a refusal leaves
abbrev pub Takes : (Queue → split.State → ℕ → Result split.State Error) → (split.State → split.State) → ℕ → Result ⊤ Refusal → Queue → Queue → Type 0
Takes by refused head r q p = MatchResult r (λ _. by q (split.state q) head ≡ Ok (split.state p)) (Because (λ e. (by q (split.state q) head ≡ Err e) × (split.state p ≡ refused (split.state q))))

-- .. of a packed queue
abbrev pub TakesAgain : Result ⊤ Refusal → PackedQueue → PackedQueue → Type 0
TakesAgain r q p = MatchResult r (λ _. packed.resubmitted q (packed.state q) ≡ Ok (true, packed.state p)) (Because (λ e. (packed.resubmitted q (packed.state q) ≡ Err e) × (packed.state p ≡ packed.state q)))

-- a head is given back, or taken without being followed; a refusal changes nothing
abbrev pub Alters : (ℕ → split.State → ℕ → Result split.State Error) → ℕ → Result ⊤ Refusal → Queue → Queue → Type 0
Alters by head r q p = MatchResult r (λ _. by q.rings.size (split.state q) head ≡ Ok (split.state p)) (Because (λ e. (by q.rings.size (split.state q) head ≡ Err e) × (p ≡ q)))

-- the device is done with a chain: what is to be written
abbrev pub UsesSplit : ℕ → ℕ → Result Used Refusal → Queue → Queue → Type 0
UsesSplit head len r q p =
    MatchResult r (λ u. (split.used (split.state q) head ≡ Ok (split.state p))
    × (u ≡ record { elem = at (q.rings.used_ring + 4 + 8 * (q.next_used % q.rings.size)) 8; elem_value = head + 2 ^ 32 * len; then = at (q.rings.used_ring + 2) 2; then_value = p.next_used }))
    (Because (λ e. (split.used (split.state q) head ≡ Err e) × (p ≡ q)))

abbrev pub UsesPacked : ℕ → ℕ → Result Used Refusal → PackedQueue → PackedQueue → Type 0
UsesPacked id len r q p =
    MatchResult r (λ u. (packed.used q.rings.size (packed.state q) id ≡ Ok (packed.state p))
    × (u ≡ record { elem = at (q.rings.desc_ring + 16 * q.used.index + 8) 6; elem_value = len + 2 ^ 32 * id; then = at (q.rings.desc_ring + 16 * q.used.index + 14) 2; then_value = packed.used_flags q.used.wrap len }))
    (Because (λ e. (packed.used q.rings.size (packed.state q) id ≡ Err e) × (p ≡ q)))

-- whether the driver is to be told, by what was read: the index or the flags of a split queue, or the place and the flags of a
-- packed one
abbrev pub TellsSplit : ℕ → Bool → Queue → Queue → Type 0
TellsSplit value told q p =
    (q.event_idx ≡ true → (IsTrue told ↔ split.IsToldOf q.signalled q.next_used value))
    × (q.event_idx ≡ false → (IsTrue told ↔ (bit_and value 1 ≡ 0)))
    × (split.state p ≡ record (split.state q) { signalled = Some q.next_used })

abbrev pub TellsPacked : ℕ → ℕ → Bool → PackedQueue → PackedQueue → Type 0
TellsPacked value flags told q p =
    (q.event_idx ≡ true → flags ≡ 2 → (IsTrue told ↔ packed.IsToldOf q.rings.size q.signalled q.used (position_of value)))
    × (q.event_idx ≡ false → (IsTrue told ↔ (flags ≢ 1)))
    × (flags ≢ 2 → (IsTrue told ↔ (flags ≢ 1)))
    × (packed.state p ≡ record (packed.state q) { signalled = Some q.used })

-- a call that only rings can answer
abbrev pub Answers : {A : Type 0} → Result A Refusal → (A → Queue → Queue → Type 0) → (A → PackedQueue → PackedQueue → Type 0) → Ring → Ring → Type 0
Answers {A} (Ok a) S P old new = ByLayout (S a) (P a) ⊥ old new
Answers {A} (Err f) S P old new = ByLayout (λ q p. ⊥) (λ q p. ⊥) (f ≡ refusal.NotStarted) old new

-- where what is available is to be read: the index of a split queue's available ring, or the flags of a packed queue's next place
abbrev pub available_place : Ring → Result HostRange Refusal
available_place Stopped = Err refusal.NotStarted
available_place (Split q) = Ok (at (q.rings.avail_ring + 2) 2)
available_place (Packed q) = Ok (at (q.rings.desc_ring + 16 * q.avail.index + 14) 2)

-- the entry of the available ring that is to be read next
abbrev pub head_place : Ring → Result HostRange Refusal
head_place Stopped = Err refusal.NotStarted
head_place (Split q) = if q.next_avail == q.avail_idx then Err (refusal.Queue NothingAvailable) else Ok (at (q.rings.avail_ring + 4 + 2 * (q.next_avail % q.rings.size)) 2)
head_place (Packed q) = Err refusal.OtherLayout

-- the entries of it that are to be read next, one behind the other: so many at most
abbrev pub heads_place : Ring → ℕ → Result HostRange Refusal
heads_place Stopped most = Err refusal.NotStarted
heads_place (Split q) most =
    if q.next_avail == q.avail_idx then Err (refusal.Queue NothingAvailable)
    else Ok (at (q.rings.avail_ring + 4 + 2 * (q.next_avail % q.rings.size)) (2 * split.entries_ahead q.rings.size (split.state q) most))
heads_place (Packed q) most = Err refusal.OtherLayout

-- the descriptor that is to be read next
abbrev pub descriptor_place : Ring → Option HostRange
descriptor_place Stopped = None
descriptor_place (Split q) = place_of (split.state q).chain
descriptor_place (Packed q) = place_of (packed.state q).chain

-- what is to be read of when the driver wants to be told
abbrev pub notification_place : Ring → Result HostRange Refusal
notification_place Stopped = Err refusal.NotStarted
notification_place (Split q) = Ok (if q.event_idx then at (q.rings.avail_ring + 4 + 2 * q.rings.size) 2 else at q.rings.avail_ring 2)
notification_place (Packed q) = Ok (at q.rings.driver_event 4)

-- what is to be written of when the device wants to be told
abbrev pub event_write : Ring → Bool → Result EventWrite Refusal
event_write Stopped enable = Err refusal.NotStarted
event_write (Split q) enable = Ok (
    if q.event_idx then (if enable then record { place = at (q.rings.used_ring + 4 + 8 * q.rings.size) 2; value = q.next_avail } else record { place = at 0 0; value = 0 })
    else record { place = at q.rings.used_ring 2; value = (if enable then 0 else 1) }
    )
event_write (Packed q) enable = Ok (record {
  place = at q.rings.device_event 4;
  value = if enable then (if q.event_idx then number_of q.avail + 2 * 2 ^ 16 else 0) else 2 ^ 16;
})

-- the base of the ring, for whoever goes on with it: of a packed queue both places
abbrev pub base : Ring → Result ℕ Refusal
base Stopped = Err refusal.NotStarted
base (Split q) = Ok q.next_avail
base (Packed q) = Ok (number_of q.avail + 2 ^ 16 * number_of q.used)

-- whether the driver broke a rule
abbrev pub needs_reset : Ring → Bool
needs_reset Stopped = false
needs_reset (Split q) = q.needs_reset
needs_reset (Packed q) = q.needs_reset

-- a split queue was started: its parts lie in regions, and it begins where it was told to
abbrev pub StartsSplit : List GuestRegion → SplitRing → Queue → Type 0
StartsSplit rs c q =
    (r : Rings) × (r.size ≡ c.size) × AreAt rs r c.desc_table c.avail_ring c.used_ring × LiesIn rs (table_range r) × LiesIn rs (avail_range r) × LiesIn rs (used_range r)
    × split.IsNew r (record { event_idx = c.event_idx; indirect_desc = c.indirect_desc; next_avail = c.next_avail; next_used = c.next_used }) q

-- .. or a packed one
abbrev pub StartsPacked : List GuestRegion → PackedRing → PackedQueue → Type 0
StartsPacked rs c q =
    (r : PackedRings) × (r.size ≡ c.size) × ArePackedAt rs r c.desc_ring c.driver_event c.device_event × LiesIn rs (ring_range r) × LiesIn rs (driver_range r) × LiesIn rs (device_range r)
    × packed.IsNew r (record { event_idx = c.event_idx; indirect_desc = c.indirect_desc; avail = position_of c.avail; used = position_of c.used }) q

-- the parts of a split queue were found at these addresses, in regions: all else stays, but the chain that was followed is none any more
abbrev pub MovesSplit : List GuestRegion → ℕ → ℕ → ℕ → Queue → Queue → Type 0
MovesSplit rs table avail used q p =
    AreAt rs p.rings table avail used × LiesIn rs (table_range p.rings) × LiesIn rs (avail_range p.rings) × LiesIn rs (used_range p.rings)
    × (p.rings.size ≡ q.rings.size) × (p.event_idx ≡ q.event_idx) × (p.indirect_desc ≡ q.indirect_desc)
    × (split.state p ≡ record (split.state q) { chain = record (split.state q).chain { next = None } })

-- .. or of a packed one
abbrev pub MovesPacked : List GuestRegion → ℕ → ℕ → ℕ → PackedQueue → PackedQueue → Type 0
MovesPacked rs ring driver device q p =
    ArePackedAt rs p.rings ring driver device × LiesIn rs (ring_range p.rings) × LiesIn rs (driver_range p.rings) × LiesIn rs (device_range p.rings)
    × (p.rings.size ≡ q.rings.size) × (p.event_idx ≡ q.event_idx) × (p.indirect_desc ≡ q.indirect_desc)
    × (packed.state p ≡ record (packed.state q) { chain = record (packed.state q).chain { next = None } })

-- why a split queue is not started
abbrev pub RefusesSplit : List GuestRegion → SplitRing → Error → Type 0
RefusesSplit rs c e = Refuses rs c.size c.desc_table c.avail_ring c.used_ring e ⊎ (e ≡ OutOfMemory)

-- .. or a packed one
abbrev pub RefusesPacked : List GuestRegion → PackedRing → Error → Type 0
RefusesPacked rs c e =
    RefusesRing rs c.size c.desc_ring c.driver_event c.device_event e ⊎ ((e ≡ InvalidBase) × ((c.size ≤ (position_of c.avail).index) ⊎ (c.size ≤ (position_of c.used).index))) ⊎ (e ≡ OutOfMemory)

-- why the rings of a split queue stay where they are
abbrev pub StaysSplit : List GuestRegion → ℕ → ℕ → ℕ → Ring → Refusal → Type 0
StaysSplit rs table avail used Stopped f = f ≡ refusal.NotStarted
StaysSplit rs table avail used (Split q) f = Because (Misses rs q.rings.size table avail used) f
StaysSplit rs table avail used (Packed q) f = f ≡ refusal.OtherLayout

-- .. or those of a packed one
abbrev pub StaysPacked : List GuestRegion → ℕ → ℕ → ℕ → Ring → Refusal → Type 0
StaysPacked rs ring driver device Stopped f = f ≡ refusal.NotStarted
StaysPacked rs ring driver device (Split q) f = f ≡ refusal.OtherLayout
StaysPacked rs ring driver device (Packed q) f = Because (MissesRing rs q.rings.size ring driver device) f

abbrev pub IsSplit : (Queue → Type 0) → Ring → Type 0
IsSplit P (Split q) = P q
IsSplit P _ = ⊥

abbrev pub IsPacked : (PackedQueue → Type 0) → Ring → Type 0
IsPacked P (Packed q) = P q
IsPacked P _ = ⊥
