-- By the turn of the call.
use Rattle.vhost_promises.proofs.Blaming.{finds-sound}
use Rattle.vhost_promises.proofs.shared.finds_sound.Goals as goal

pub returns : goal.returns
returns g c = finds-sound c.get_features.result c.get_features.ensures
