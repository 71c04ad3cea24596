use Rattle.std.proofs.Common.{Some, sym, ap, ◌∙◌}
use Rattle.vhost_c_queue.specs.declared.device_queue.DeviceQueue.{DeviceQueue}
use Rattle.vhost_c_queue_calls.proofs.Called.{no-queue, called}
use Rattle.vhost_c_queue_calls.proofs.memory.covretin_queue_remove_region.Goals as goal

pub returns-in-None : goal.returns-in-None
returns-in-None c = no-queue _ _ _ _ c.in-None.ensures.taken c.in-None.ensures.left c.number_of.ensures

pub returns-in-Some : goal.returns-in-Some
returns-in-Some c =
    called _ _ _ _ c.deref_mut.result.now c.remove_region-outcome.new.self (c.in-Some.ensures.taken ∙ ap {A = DeviceQueue} Some (sym c.deref_mut.ensures.value)) c.put.ensures
    (c.remove_region-outcome.result, c.number_of-in-Some.ensures, c.remove_region-outcome.ensures.ok, c.remove_region-outcome.ensures.reason, c.remove_region-outcome.ensures.err, c.remove_region-outcome.ensures.ring)
