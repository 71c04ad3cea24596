-- The features that a caller of its own was answered.
use Rattle.vhost_protocol.specs.FrontendCall.{Number}
use Rattle.vhost_promises.proofs.OwnAnswer.{own-answer}
use Rattle.vhost_promises.proofs.shared.own_features.Goals as goal

pub returns : goal.returns
returns g c = own-answer Number _ c.get_features.ensures
