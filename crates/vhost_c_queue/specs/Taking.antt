-- The next chain was read by one call: that it is there, and its first descriptors.
use Rattle.std.specs.Prelude.{◌≡◌, ◌⊎◌, ℕ, true, false, List, Result, Ok, Err, MatchResult, ⊤}
use Rattle.vhost_queue.specs.Packed as packed
use Rattle.vhost_queue.specs.Queue as split
use Rattle.vhost_queue.specs.declared.descriptor.Descriptor.{Descriptor}
use Rattle.vhost_queue.specs.declared.descriptor.Segment.{Segment}
use Rattle.vhost_queue.specs.declared.error.Error.TheVariants.{NothingAvailable}
use Rattle.vhost_queue.specs.declared.memory.GuestRegion.{GuestRegion}
use Rattle.vhost_queue.specs.declared.packed.PackedQueue.{PackedQueue}
use Rattle.vhost_c_queue.specs.DeviceQueue.{Because, ByLayout, Takes}
use Rattle.vhost_c_queue.specs.Walking.{Stops, WalksTo}
use Rattle.vhost_c_queue.specs.declared.device_queue.Ring.{Ring}
use Rattle.vhost_c_queue.specs.declared.records.Walked.{Walked}
use Rattle.vhost_c_queue.specs.declared.refusal.Refusal.{Refusal}
use Rattle.vhost_c_queue.specs.declared.refusal.Refusal.TheVariants.{NotStarted}

-- the flags of a packed queue's next place were read: a chain is there, and is followed; or the queue refuses it, or none is there
abbrev pub BeginsPacked : ℕ → Result ⊤ Refusal → PackedQueue → PackedQueue → Type 0
BeginsPacked flags r q p =
    MatchResult r (λ _. packed.popped q (packed.state q) flags ≡ Ok (true, packed.state p))
    (Because (λ e. ((packed.popped q (packed.state q) flags ≡ Err e) × (packed.state p ≡ packed.state q)) ⊎ ((packed.popped q (packed.state q) flags ≡ Ok (false, packed.state p)) × (e ≡ NothingAvailable))))

-- the next chain begins, where this was read: the next entry of a split queue's available ring, or those flags
abbrev pub Begins : ℕ → Result ⊤ Refusal → Ring → Ring → Type 0
Begins value r old new = ByLayout (Takes split.popped split.refused_pop value r) (BeginsPacked value r) (r ≡ Err NotStarted) old new

-- it begins, and is followed so far
abbrev pub TakesTo : List GuestRegion → ℕ → List Descriptor → List Segment → Walked → Ring → Ring → Type 0
TakesTo rs value copies segments w old new = (was : Ring) × Begins value (Ok tt) old was × WalksTo rs copies segments w was new

-- it does not begin; or it does, and one of its descriptors is refused
abbrev pub NotTaken : List GuestRegion → ℕ → List Descriptor → Refusal → Ring → Ring → Type 0
NotTaken rs value copies f old new = Begins value (Err f) old new ⊎ ((was : Ring) × Begins value (Ok tt) old was × Stops rs copies f was new)
