use Rattle.std.proofs.Common.{◌≡◌, ℕ, ◌<◌, false, get_or}
use Rattle.vhost_queue.specs.Memory.{is_at}
use Rattle.vhost_queue.specs.declared.memory.GuestRegion.{GuestRegion}
use Rattle.vhost_queue.proofs.memory.GuestMemory.position.Given as goal

abbrev pub invariant-loop-at : goal.invariant-loop-at
invariant-loop-at l = (k : ℕ) (d : GuestRegion) → k < l.at → is_at (get_or l.self.regions.items k d) l.guest_addr l.size l.user_addr ≡ false
