use Rattle.std.proofs.Common.{◌≡◌}
use Rattle.vhost_queue.specs.Queue.{IsSameQueue}
use Rattle.vhost_queue.proofs.serving.serve.Given as goal

abbrev pub invariant-loop-step : goal.invariant-loop-step
invariant-loop-step g l = (l.memory.regions.items ≡ l.fn.memory.regions.items) × IsSameQueue l.fn.queue l.queue
