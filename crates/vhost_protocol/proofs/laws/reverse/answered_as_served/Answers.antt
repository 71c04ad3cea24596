-- The laws of the reverse channel.
use Rattle.vhost_protocol.proofs.ReverseLaws.{reverse-answers, reverse-takes}
use Rattle.vhost_protocol.proofs.laws.reverse.answered_as_served.Goals as goal

pub returns-clause-answers : goal.returns-clause-answers
returns-clause-answers g c = reverse-answers _

pub returns-clause-takes : goal.returns-clause-takes
returns-clause-takes g c = reverse-takes _
