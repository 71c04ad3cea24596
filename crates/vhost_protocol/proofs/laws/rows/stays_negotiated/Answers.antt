-- The laws of negotiation.
use Rattle.vhost_protocol.proofs.NegotiationLaws.{calls-negotiate, replies-negotiate}
use Rattle.vhost_protocol.proofs.laws.rows.stays_negotiated.Goals as goal

pub returns-clause-asks : goal.returns-clause-asks
returns-clause-asks g c = calls-negotiate _

pub returns-clause-answers : goal.returns-clause-answers
returns-clause-answers g c = replies-negotiate _
