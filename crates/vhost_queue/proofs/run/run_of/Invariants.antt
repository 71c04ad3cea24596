use Rattle.std.proofs.Common.{◌≡◌, ◌≤◌, ◌-◌, take, length}
use Rattle.vhost_queue.specs.Queue.{IsSameQueue, Runs}
use Rattle.vhost_queue.proofs.run.run_of.Given as goal

abbrev pub invariant-loop-at : goal.invariant-loop-at
invariant-loop-at l = record {
  runs : Runs l.fn.memory.regions.items l.copies l.fn.queue l.at (take l.at l.segments) l.queue;
  most : l.at ≤ length l.copies;
  few : l.at ≤ length l.segments;
  len : length l.segments ≡ length l.fn.segments;
  memory : l.memory.regions.items ≡ l.fn.memory.regions.items;
  same : IsSameQueue l.fn.queue l.queue;
}

abbrev pub decreases-loop-at : goal.decreases-loop-at
decreases-loop-at l = length l.copies - l.at
