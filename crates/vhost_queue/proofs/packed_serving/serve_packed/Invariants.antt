use Rattle.std.proofs.Common.{◌≡◌}
use Rattle.vhost_queue.specs.Packed.{IsSameQueue}
use Rattle.vhost_queue.proofs.packed_serving.serve_packed.Given as goal

abbrev pub invariant-loop-step : goal.invariant-loop-step
invariant-loop-step g l = (l.memory.regions.items ≡ l.fn.memory.regions.items) × IsSameQueue l.fn.queue l.queue
