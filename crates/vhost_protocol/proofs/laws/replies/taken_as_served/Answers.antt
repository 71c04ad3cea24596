-- The laws of replies, for each kind.
use Rattle.vhost_protocol.proofs.TakeLaws.{take-acknowledged, take-number, take-empty}
use Rattle.vhost_protocol.proofs.TakeShapes.{take-reply, take-nothing}
use Rattle.vhost_protocol.proofs.laws.replies.taken_as_served.Goals as goal

pub returns-clause-acknowledgement : goal.returns-clause-acknowledgement
returns-clause-acknowledgement g c call sent f r of_r agreed rest = take-acknowledged _ call sent f r agreed rest of_r.0 of_r.1 of_r.2

pub returns-clause-number : goal.returns-clause-number
returns-clause-number g c = take-number _

pub returns-clause-empty : goal.returns-clause-empty
returns-clause-empty g c = take-empty _

pub returns-clause-reply : goal.returns-clause-reply
returns-clause-reply g c = take-reply _

pub returns-clause-nothing : goal.returns-clause-nothing
returns-clause-nothing g c = take-nothing _
