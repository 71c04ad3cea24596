-- The laws of all calls.
use Rattle.vhost_protocol.proofs.HeardLaws.{replies-well, awaits-shape, hears-answer}
use Rattle.vhost_protocol.proofs.laws.lockstep.heard_as_served.Goals as goal

pub returns-clause-replies : goal.returns-clause-replies
returns-clause-replies g c = replies-well _ _ _

pub returns-clause-awaits : goal.returns-clause-awaits
returns-clause-awaits g c = awaits-shape _

pub returns-clause-hears : goal.returns-clause-hears
returns-clause-hears g c = hears-answer _
