use Rattle.std.proofs.Common.{Some, None}
use Rattle.vhost_c_common.proofs.ByNumber.{as-said}
use Rattle.vhost_c.specs.Channel as opens
use Rattle.vhost_c.specs.Channel.{OpensChannel}
use Rattle.vhost_c.proofs.channel_opening.covretin_channel_open.Goals as goal

pub returns-in-Some : goal.returns-in-Some
returns-in-Some c = as-said OpensChannel _ _ (Some c.in-Some.held.value) (Some c.in-Some.held.value) _ 102 c.in-Some.ensures.taken c.number_of.ensures c.put.ensures opens.OpensChannel.was_open

pub returns-in-Ok : goal.returns-in-Ok
returns-in-Ok c = as-said OpensChannel _ _ None (Some c.in-Ok.made.value) _ 0 c.in-None.ensures.taken c.number_of-in-Ok.ensures c.put-in-Ok.ensures (opens.OpensChannel.opened c.in-Ok.ensures)

pub returns-in-Err : goal.returns-in-Err
returns-in-Err c = as-said OpensChannel _ _ None None _ 24 c.in-None.ensures.taken c.number_of-in-Err.ensures c.in-None.ensures.left opens.OpensChannel.no_room
