use Rattle.std.proofs.Common.{Some, sym, ap, ◌∙◌}
use Rattle.vhost_c_queue.specs.declared.device_queue.DeviceQueue.{DeviceQueue}
use Rattle.vhost_c_queue_calls.proofs.Called.{no-queue, called}
use Rattle.vhost_c_queue_calls.proofs.walking.covretin_queue_take.Goals as goal

pub returns-in-None : goal.returns-in-None
returns-in-None c = no-queue _ _ _ _ c.in-None.ensures.taken c.in-None.ensures.left c.number_of.ensures

pub returns-in-Some : goal.returns-in-Some
returns-in-Some c =
    called _ _ _ _ c.deref_mut.result.now c.take-outcome.new.self (c.in-Some.ensures.taken ∙ ap {A = DeviceQueue} Some (sym c.deref_mut.ensures.value)) c.put.ensures
    (c.take-outcome.result, c.told.ensures, c.take-outcome.ensures.ok, c.take-outcome.ensures.err, c.take-outcome.ensures.len, c.take-outcome.ensures.memory)
