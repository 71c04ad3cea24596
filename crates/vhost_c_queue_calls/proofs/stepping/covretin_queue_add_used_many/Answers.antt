use Rattle.std.proofs.Common.{Some, sym, ap, ◌∙◌}
use Rattle.vhost_c_queue.specs.declared.device_queue.DeviceQueue.{DeviceQueue}
use Rattle.vhost_c_queue_calls.proofs.Called.{no-queue, called}
use Rattle.vhost_c_queue_calls.proofs.stepping.covretin_queue_add_used_many.Goals as goal

pub returns-in-None-clause-calls : goal.returns-in-None-clause-calls
returns-in-None-clause-calls c = no-queue _ _ _ _ c.in-None.ensures.taken c.in-None.ensures.left c.number_of.ensures

pub returns-in-Some-clause-calls : goal.returns-in-Some-clause-calls
returns-in-Some-clause-calls c =
    let is = c.add_used_many-count.ensures in
    called _ _ _ _ c.deref_mut.result.now c.add_used_many-count.new.self (c.in-Some.ensures.taken ∙ ap {A = DeviceQueue} Some (sym c.deref_mut.ensures.value)) c.put.ensures
    (c.add_used_many-count.result.1, c.number_of-in-Some.ensures, is.uses, is.memory)
