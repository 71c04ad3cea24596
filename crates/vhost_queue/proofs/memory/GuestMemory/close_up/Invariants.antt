use Rattle.std.proofs.Common.{◌≡◌, ◌≤◌, length}
use Rattle.vhost_queue.proofs.memory.GuestMemory.close_up.Given as goal

abbrev pub invariant-loop-index : goal.invariant-loop-index
invariant-loop-index l = record {
  few : l.kept ≤ l.index;
  len : length l.self.order.items ≡ length l.fn.self.order.items;
  regions : l.self.regions ≡ l.fn.self.regions;
}
