use Rattle.std.proofs.Common.{◌≡◌}
use Rattle.vhost_queue.proofs.Covered.{Handed}
use Rattle.vhost_queue.proofs.Followed.{remaining}
use Rattle.vhost_queue.specs.Chain.{following}
use Rattle.vhost_queue.proofs.whole.follow_descriptor.Given as goal

abbrev pub invariant-loop-descriptor : goal.invariant-loop-descriptor
invariant-loop-descriptor l = record {
  handed : Handed l.fn.memory.regions.items l.descriptor l.segments.items (following l.chain).rest;
  memory : l.memory.regions.items ≡ l.fn.memory.regions.items;
}

abbrev pub decreases-loop-descriptor : goal.decreases-loop-descriptor
decreases-loop-descriptor l = remaining (following l.chain)
