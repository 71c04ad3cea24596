use Rattle.std.proofs.Common.{Some, None}
use Rattle.vhost_c_frontend.specs.Session.{Opens, opened, was_open, no_room}
use Rattle.vhost_c_common.proofs.ByNumber.{as-said}
use Rattle.vhost_c.proofs.opening.covretin_open.Goals as goal

pub returns-in-Some : goal.returns-in-Some
returns-in-Some c = as-said (Opens c.args.max_queue_num) _ _ (Some c.in-Some.held.value) (Some c.in-Some.held.value) _ 102 c.in-Some.ensures.taken c.number_of.ensures c.put.ensures was_open

pub returns-in-Ok : goal.returns-in-Ok
returns-in-Ok c = as-said (Opens c.args.max_queue_num) _ _ None (Some c.in-Ok.made.value) _ 0 c.in-None.ensures.taken c.number_of-in-Ok.ensures c.put-in-Ok.ensures (opened c.in-Ok.ensures)

pub returns-in-Err : goal.returns-in-Err
returns-in-Err c = as-said (Opens c.args.max_queue_num) _ _ None None _ 24 c.in-None.ensures.taken c.number_of-in-Err.ensures c.in-None.ensures.left no_room
