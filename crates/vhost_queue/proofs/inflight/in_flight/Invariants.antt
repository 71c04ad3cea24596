use Rattle.std.proofs.Common.{◌≡◌, ◌++◌, drop}
use Rattle.vhost_queue.specs.Inflight.{pending}
use Rattle.vhost_queue.proofs.inflight.in_flight.Given as goal

-- what is left to find
abbrev pub invariant-loop-head : goal.invariant-loop-head
invariant-loop-head l = l.again.items ++ pending (drop l.head l.entries) l.marks l.head ≡ pending l.entries l.marks 0
