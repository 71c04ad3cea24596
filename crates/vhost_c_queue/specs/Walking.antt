-- A chain whose descriptors were read one behind the other, before the first was looked at.
use Rattle.std.specs.Prelude.{◌≡◌, ℕ, ◌+◌, ◌<◌, ◌≤◌, ◌⊎◌, ◌++◌, false, List, [], length, take, slice_index_or, Option, Some, None, is_some, option_to_list, Result, Ok, Err, if◌then◌else◌}
use Rattle.vhost_queue.specs.Chain.{Following, following, table_of}
use Rattle.vhost_queue.specs.Queue.{Runs}
use Rattle.vhost_queue.specs.Segment.{IsSafe}
use Rattle.vhost_queue.specs.declared.descriptor.Descriptor.{Descriptor}
use Rattle.vhost_queue.specs.declared.descriptor.Segment.{Segment}
use Rattle.vhost_queue.specs.declared.memory.GuestRegion.{GuestRegion}
use Rattle.vhost_c_queue.specs.DeviceQueue.{ByLayout, StepsPacked, StepsSplit}
use Rattle.vhost_c_queue.specs.declared.device_queue.Ring.{Ring}
use Rattle.vhost_c_queue.specs.declared.device_queue.Ring.TheVariants.{Stopped, Split, Packed}
use Rattle.vhost_c_queue.specs.declared.records.Table.{Table}
use Rattle.vhost_c_queue.specs.declared.records.Walked.{Walked}
use Rattle.vhost_c_queue.specs.declared.refusal.Refusal.{Refusal}
use Rattle.vhost_c_queue.specs.declared.refusal.Refusal.TheVariants.{NotStarted}

-- the chain that is followed; a queue without rings follows none
abbrev pub chain_of : Ring → Following
chain_of Stopped = record { table = 0; entries = 0; next = None; rest = None; left = 0; splits = 0; writing = false; nests = false }
chain_of (Split q) = following q.chain
chain_of (Packed q) = following q.chain

-- how many segments it may have yet
abbrev pub most_segments : Following → ℕ
most_segments f = f.left + f.splits

abbrev pub or_zero : Option ℕ → ℕ
or_zero None = 0
or_zero (Some i) = i

-- where it goes on
abbrev pub table_at : Following → Table
table_at f = record { range = table_of f; next = or_zero f.next; goes_on = is_some f.next }

-- the next descriptor was read
abbrev pub Steps : List GuestRegion → Descriptor → Result (Option Segment) Refusal → Ring → Ring → Type 0
Steps rs d r old new = ByLayout (StepsSplit rs d r) (StepsPacked rs d r) (r ≡ Err NotStarted) old new

-- how many descriptors are behind it, where so many were before a step: the same, if the rest of one comes next
abbrev pub taken_at : ℕ → Ring → ℕ
taken_at at ring = if is_some (chain_of ring).rest then at else at + 1

-- What the first of these descriptors make of a queue, as if they were read one by one: how many are behind it, and which segments they are.
pub data Walks (rs : List GuestRegion) (copies : List Descriptor) (old : Ring) : ℕ → List Segment → Ring → Type 0 where
  none : Walks rs copies old 0 [] old
  one : {at : ℕ} {xs : List Segment} {was now : Ring} → Walks rs copies old at xs was → (o : Option Segment) → at < length copies
      → ((d : Descriptor) → Steps rs (slice_index_or copies at d) (Ok o) was now) → Walks rs copies old (taken_at at now) (xs ++ option_to_list o) now

-- the first of them are behind a split queue's chain, each as a whole
abbrev pub RunsBy : List GuestRegion → List Descriptor → ℕ → List Segment → Ring → Ring → Type 0
RunsBy rs copies n xs old new = ByLayout (λ q p. Runs rs copies q n xs p) (λ q p. (n ≡ 0) × (xs ≡ []) × (p ≡ q)) ((n ≡ 0) × (xs ≡ [])) old new

-- the first of them are behind it, and the next is refused
abbrev pub Stops : List GuestRegion → List Descriptor → Refusal → Ring → Ring → Type 0
Stops rs copies f old new =
    (at : ℕ) × (xs : List Segment) × (was : Ring) × Walks rs copies old at xs was × (at < length copies) × ((d : Descriptor) → Steps rs (slice_index_or copies at d) (Err f) was new)

-- they are followed so far, by these segments
pub record WalksTo (rs : List GuestRegion) (copies : List Descriptor) (segments : List Segment) (w : Walked) (old new : Ring) : Type 0 where
  pub walks : Walks rs copies old w.taken (take w.count segments) new
  pub safe : IsSafe rs (most_segments (chain_of old)) (take w.count segments)
  pub most : (w.taken ≤ length copies) × (w.count ≤ length segments)
  pub all : (w.taken ≡ length copies) ⊎ (w.count ≡ length segments)
  pub table : w.table ≡ table_at (chain_of new)
