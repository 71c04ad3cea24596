use Rattle.vhost_connection.specs.State.{ahead_of}
use Rattle.vhost_joined.proofs.Carrying.{carries}
use Rattle.vhost_joined.proofs.ways.carry.Goals as goal

pub returns-in-Ok-clause-carried : goal.returns-in-Ok-clause-carried
unfolding ahead_of
returns-in-Ok-clause-carried g c = carries _ _ _ _ _ _ c.link.ensures.value c.link-2.ensures.value c.in-Ok.ensures.carried
