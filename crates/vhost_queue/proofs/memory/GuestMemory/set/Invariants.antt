use Rattle.std.proofs.Common.{◌≡◌, take}
use Rattle.vhost_queue.proofs.memory.GuestMemory.set.Given as goal

abbrev pub invariant-loop-region : goal.invariant-loop-region
invariant-loop-region l = l.memory.regions.items ≡ take l.region-index l.regions
