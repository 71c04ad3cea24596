use Rattle.std.proofs.Common.{◌≡◌, ℕ, ◌<◌, true, get_or}
use Rattle.vhost_queue.specs.Memory.{is_apart}
use Rattle.vhost_queue.specs.declared.memory.GuestRegion.{GuestRegion}
use Rattle.vhost_queue.proofs.memory.GuestMemory.overlaps.Given as goal

abbrev pub invariant-loop-old : goal.invariant-loop-old
invariant-loop-old l = (k : ℕ) (d : GuestRegion) → k < l.old-index → is_apart (get_or l.old-items k d) l.region ≡ true
