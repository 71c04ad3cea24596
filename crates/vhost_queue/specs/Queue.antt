-- Where a device stands in a split queue, and what its steps make of it: virtio 1.2, 2.7.
use Rattle.std.specs.Prelude.{ℕ, ◌≡◌, ◌+◌, ◌-◌, ◌%◌, ◌<◌, ◌++◌, min, Bool, true, false, not, List, [], length, option_to_list, ◌==◌, nat_lt, Option, Some, None, Result, Ok, Err, if◌then◌else◌, is_some, slice_index_or, slice_set, replicate}
use Rattle.vhost_queue.specs.Chain.{Following, GoesOn, begun, following, segment_limit, step}
use Rattle.vhost_queue.specs.Notification.{moved, next_index, previous_index, Passes}
use Rattle.vhost_queue.specs.declared.descriptor.Descriptor.{Descriptor}
use Rattle.vhost_queue.specs.declared.descriptor.Segment.{Segment}
use Rattle.vhost_queue.specs.declared.error.Error.{Error}
use Rattle.vhost_queue.specs.declared.error.Error.TheVariants.{NeedsReset, NotInTable, NothingAvailable, TooManyAvailable, HeadInUse, NotHandedOut}
use Rattle.vhost_queue.specs.declared.memory.GuestRegion.{GuestRegion}
use Rattle.vhost_queue.specs.declared.queue.Queue.{Queue}
use Rattle.vhost_queue.specs.declared.queue.QueueConfig.{QueueConfig}
use Rattle.vhost_queue.specs.declared.rings.Rings.{Rings}

-- Which entry of the available ring is next, and where that ring ended when its index was last read; which entry of the used ring
-- is next, and which was when the driver was last told; which heads the device has; the chain that is followed; and whether the
-- driver broke a rule, so that the queue needs a reset.
pub record State : Type 0 where
  pub next_avail : ℕ
  pub avail_idx : ℕ
  pub next_used : ℕ
  pub signalled : Option ℕ
  pub out : List Bool
  pub chain : Following
  pub needs_reset : Bool

abbrev pub state : Queue → State
state q = record { next_avail = q.next_avail; avail_idx = q.avail_idx; next_used = q.next_used; signalled = q.signalled; out = q.out.items; chain = following q.chain; needs_reset = q.needs_reset }

-- A new queue: it begins where it was told to, nothing is known to be available, and the device has no chain.
pub record IsNew (r : Rings) (c : QueueConfig) (q : Queue) : Type 0 where
  pub rings : q.rings ≡ r
  pub event_idx : q.event_idx ≡ c.event_idx
  pub indirect_desc : q.indirect_desc ≡ c.indirect_desc
  pub avail : (q.next_avail ≡ c.next_avail) × (q.avail_idx ≡ c.next_avail)
  pub used : (q.next_used ≡ c.next_used) × (q.signalled ≡ None)
  pub none_out : q.out.items ≡ replicate r.size false
  pub no_chain : (following q.chain).next ≡ None
  pub runs : q.needs_reset ≡ false

-- what no step changes: where the queue's parts are mapped, and what was negotiated
abbrev pub IsSameQueue : Queue → Queue → Type 0
IsSameQueue q p = (p.rings ≡ q.rings) × (p.event_idx ≡ q.event_idx) × (p.indirect_desc ≡ q.indirect_desc)

-- the driver broke a rule
abbrev pub broken : State → State
broken s = record s { needs_reset = true }

-- what a refused `pop` leaves: the driver broke a rule, unless nothing was available
abbrev pub refused_pop : State → State
refused_pop s = if s.next_avail == s.avail_idx then s else broken s

-- what a refused step leaves: the driver broke a rule, unless the chain had ended
abbrev pub refused_step : State → State
refused_step s = if is_some s.chain.next then broken s else s

-- the index of the available ring was read
abbrev pub told : ℕ → State → ℕ → Result State Error
told size s idx =
    if s.needs_reset then Err NeedsReset
    else if nat_lt size (moved s.next_avail idx) then Err TooManyAvailable
    else Ok (record s { avail_idx = idx })

-- how many entries of the available ring are to be read next, one behind the other: so many at most, up to the last one that is available, and up
-- to the end of the ring
abbrev pub entries_ahead : ℕ → State → ℕ → ℕ
entries_ahead size s most = min (min most (moved s.next_avail s.avail_idx)) (size - s.next_avail % size)

-- the chain of this head is the device's from now on
abbrev pub taking : ℕ → State → ℕ → Result Following Error → Result State Error
taking next s head (Ok chain) = Ok (record s { next_avail = next; out = slice_set s.out head true; chain = chain })
taking next s head (Err e) = Err e

-- .. if its head is one, and it has none of it yet
abbrev pub taken : Queue → ℕ → State → ℕ → Result State Error
taken q next s head =
    if slice_index_or s.out head false then Err HeadInUse
    else taking next s head (begun q.rings.desc_table q.rings.size (segment_limit q.rings.size q.indirect_desc) q.indirect_desc head)

-- the next entry of the available ring was read
abbrev pub popped : Queue → State → ℕ → Result State Error
popped q s head =
    if s.needs_reset then Err NeedsReset
    else if s.next_avail == s.avail_idx then Err NothingAvailable
    else taken q (next_index s.next_avail) s head

-- a chain that was not used before a crash is taken again
abbrev pub resubmitted : Queue → State → ℕ → Result State Error
resubmitted q s head =
    if s.needs_reset then Err NeedsReset
    else taken q s.next_avail s head

-- the chain goes on
abbrev pub with_chain : State → Result (Option Segment × Following) Error → Result (Option Segment × State) Error
with_chain s (Ok out) = Ok (out.0, record s { chain = out.1 })
with_chain s (Err e) = Err e

-- the next descriptor of the chain was read
abbrev pub stepped : List GuestRegion → State → Descriptor → Result (Option Segment × State) Error
stepped rs s d = if s.needs_reset then Err NeedsReset else with_chain s (step rs s.chain d)

-- .. and is behind the chain as a whole: its bytes are one segment, or it names a table
abbrev pub StepsWhole : List GuestRegion → Queue → Descriptor → Option Segment → Queue → Type 0
StepsWhole rs q d o p =
    (stepped rs (state q) d ≡ Ok (o, state p)) × GoesOn rs (state q).chain o (state p).chain × ((state p).chain.rest ≡ None)

-- what the first of these descriptors make of a queue, each of which is behind the chain as a whole: how many they are, and which segments
pub data Runs (rs : List GuestRegion) (copies : List Descriptor) (old : Queue) : ℕ → List Segment → Queue → Type 0 where
  stays : Runs rs copies old 0 [] old
  steps_on : {at : ℕ} {xs : List Segment} {was now : Queue} → Runs rs copies old at xs was → (o : Option Segment) → at < length copies
      → ((d : Descriptor) → StepsWhole rs was (slice_index_or copies at d) o now) → Runs rs copies old (at + 1) (xs ++ option_to_list o) now

-- the device is done with the chain of this head
abbrev pub used : State → ℕ → Result State Error
used s head =
    if slice_index_or s.out head false then Ok (record s { next_used = next_index s.next_used; out = slice_set s.out head false })
    else Err NotHandedOut

-- a pop is undone: the entry of the available ring that was read last is next again
abbrev pub given_back : ℕ → State → ℕ → Result State Error
given_back size s head =
    if not (slice_index_or s.out head false) then Err NotHandedOut
    else if nat_lt size (moved (previous_index s.next_avail) s.avail_idx) then Err TooManyAvailable
    else Ok (record s { next_avail = previous_index s.next_avail; out = slice_set s.out head false; chain = record s.chain { next = None } })

-- the device has the chain of this head, which was taken before the queue was started
abbrev pub adopted : ℕ → State → ℕ → Result State Error
adopted size s head =
    if not (nat_lt head size) then Err NotInTable
    else if slice_index_or s.out head false then Err HeadInUse
    else Ok (record s { out = slice_set s.out head true })

-- whether the driver is to be told of what was used since it was last told: by its event index, or by its flags
abbrev pub IsToldOf : Option ℕ → ℕ → ℕ → Type 0
IsToldOf None next event = Unit {0}
IsToldOf (Some old) next event = Passes old next event
