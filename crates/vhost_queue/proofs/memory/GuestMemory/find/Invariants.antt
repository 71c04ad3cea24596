use Rattle.std.proofs.Common.{◌≡◌, drop}
use Rattle.vhost_queue.specs.Memory.{translated}
use Rattle.vhost_queue.proofs.memory.GuestMemory.find.Given as goal

-- no region before this one has the range
abbrev pub invariant-loop-at : goal.invariant-loop-at
invariant-loop-at l = translated l.space (drop l.at l.self.regions.items) l.addr l.len ≡ translated l.space l.self.regions.items l.addr l.len
