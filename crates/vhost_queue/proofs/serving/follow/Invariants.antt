use Rattle.std.proofs.Common.{◌≡◌, ◌+◌}
use Rattle.vhost_queue.proofs.Followed.{Followed, remaining}
use Rattle.vhost_queue.specs.Queue.{state, IsSameQueue}
use Rattle.vhost_queue.proofs.serving.follow.Given as goal

abbrev pub invariant-loop-place : goal.invariant-loop-place
invariant-loop-place g l = record {
  followed : Followed l.fn.memory.regions.items ((state l.fn.queue).chain.left + (state l.fn.queue).chain.splits) l.segments.items (state l.queue).chain;
  memory : l.memory.regions.items ≡ l.fn.memory.regions.items;
  kept : ((state l.queue).next_used ≡ (state l.fn.queue).next_used) × ((state l.queue).out ≡ (state l.fn.queue).out);
  rings : IsSameQueue l.fn.queue l.queue;
}

abbrev pub decreases-loop-place : goal.decreases-loop-place
decreases-loop-place g l = remaining (state l.queue).chain
