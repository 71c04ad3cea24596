use Rattle.std.proofs.Common.{Some, None, subst, sym}
use Rattle.vhost_c_queue.specs.declared.device_queue.DeviceQueue.{DeviceQueue}
use Rattle.vhost_c_queue_calls.proofs.Called.{as-said}
use Rattle.vhost_c_queue_calls.specs.Opening.{Opens, opened, was_open, no_room}
use Rattle.vhost_c_queue_calls.proofs.opening.covretin_queue_open.Goals as goal

pub returns-in-Some : goal.returns-in-Some
returns-in-Some c = as-said Opens _ _ (Some c.in-Some.held.value) (Some c.in-Some.held.value) _ 102 c.in-Some.ensures.taken c.number_of.ensures c.put.ensures was_open

pub returns-in-Ok : goal.returns-in-Ok
returns-in-Ok c = as-said Opens _ _ None (Some c.in-Ok.made.value) _ 0 c.in-None.ensures.taken c.number_of-in-Ok.ensures c.put-in-Ok.ensures
    (subst (λ (s : DeviceQueue). Opens None 0 (Some s)) (sym c.in-Ok.ensures.ok) (opened c.new.ensures.none c.new.ensures.stopped))

pub returns : goal.returns
returns c = as-said Opens _ _ None None _ 24 c.in-None.ensures.taken c.number_of-in-Err.ensures c.in-None.ensures.left no_room
