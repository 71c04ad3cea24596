-- The law of refusals.
use Rattle.vhost_protocol.proofs.RefusalLaws.{refusals-heard}
use Rattle.vhost_protocol.proofs.laws.rows.refusals_are_heard.Goals as goal

pub returns : goal.returns
returns g c = refusals-heard _
