use Rattle.std.proofs.Common.{Some, None}
use Rattle.vhost_c_common.proofs.ByNumber.{as-said}
use Rattle.vhost_c.specs.Display as opens
use Rattle.vhost_c.specs.Display.{OpensDisplay}
use Rattle.vhost_c.proofs.display_opening.covretin_display_open.Goals as goal

pub returns-in-Some : goal.returns-in-Some
returns-in-Some c = as-said OpensDisplay _ _ (Some c.in-Some.held.value) (Some c.in-Some.held.value) _ 102 c.in-Some.ensures.taken c.number_of.ensures c.put.ensures opens.OpensDisplay.was_open

pub returns-in-Ok : goal.returns-in-Ok
returns-in-Ok c = as-said OpensDisplay _ _ None (Some c.in-Ok.made.value) _ 0 c.in-None.ensures.taken c.number_of-in-Ok.ensures c.put-in-Ok.ensures (opens.OpensDisplay.opened c.in-Ok.ensures)

pub returns-in-Err : goal.returns-in-Err
returns-in-Err c = as-said OpensDisplay _ _ None None _ 24 c.in-None.ensures.taken c.number_of-in-Err.ensures c.in-None.ensures.left opens.OpensDisplay.no_room
