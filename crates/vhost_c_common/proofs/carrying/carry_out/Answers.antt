use Rattle.vhost_connection.specs.State.{ahead_of}
use Rattle.vhost_c_common.proofs.OnWay.{collects}
use Rattle.vhost_c_common.proofs.carrying.carry_out.Goals as goal

pub returns-in-Ok-clause-collected : goal.returns-in-Ok-clause-collected
unfolding ahead_of
returns-in-Ok-clause-collected g c = collects _ _ _ c.link.ensures.value _ _ c.in-Ok.ensures.carried
