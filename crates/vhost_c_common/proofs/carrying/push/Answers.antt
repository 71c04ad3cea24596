use Rattle.vhost_connection.specs.State.{ahead_of}
use Rattle.vhost_c_common.proofs.OnWay.{pushes}
use Rattle.vhost_c_common.proofs.carrying.push.Goals as goal

pub returns-in-Ok-clause-given : goal.returns-in-Ok-clause-given
unfolding ahead_of
returns-in-Ok-clause-given g c = pushes _ _ _ c.link.ensures.value _ c.in-Ok.ensures.pushed
