-- By the contracts of both halves, and what a call with a reply awaits.
use Rattle.std.proofs.Common.{refl}
use Rattle.vhost_frontend.proofs.Whole.{unasked, replied}
use Rattle.vhost_promises.proofs.halves.features_by_halves.Goals as goal

pub returns-in-Ok : goal.returns-in-Ok
returns-in-Ok g c = replied c.ask_get_features.new.self refl (c.in-Ok.ensures.asked.without refl) c.take_get_features.ensures.taken

pub returns-in-Err : goal.returns-in-Err
returns-in-Err g c = unasked (c.in-Err.ensures.asked.without refl)
