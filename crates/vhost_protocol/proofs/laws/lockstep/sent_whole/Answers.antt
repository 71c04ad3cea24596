-- The law of all calls.
use Rattle.vhost_protocol.proofs.SendLaws.{sends-whole}
use Rattle.vhost_protocol.proofs.laws.lockstep.sent_whole.Goals as goal

pub returns : goal.returns
returns g c = sends-whole _
