-- The law of all calls.
use Rattle.vhost_protocol.proofs.AgreeLaws.{keeps-step}
use Rattle.vhost_protocol.proofs.laws.rows.stays_in_step.Goals as goal

pub returns : goal.returns
returns g c = keeps-step _ _ _
