-- A new session may offer them.
use Rattle.std.proofs.Common.{[]}
use Rattle.vhost_c_backend.proofs.Offering.{begins}
use Rattle.vhost_c_backend.proofs.clients.offers_features.Goals as goal

pub returns-in-Ok-offer_all-clause-offered : goal.returns-in-Ok-offer_all-clause-offered
returns-in-Ok-offer_all-clause-offered c = c.in-Ok-offer_all.ensures [] (begins c.in-Ok.served c.in-Ok.ensures.new)

pub returns-in-Err-offer_all-clause-memory : goal.returns-in-Err-offer_all-clause-memory
returns-in-Err-offer_all-clause-memory c = c.in-Err-offer_all.ensures [] (begins c.in-Ok.served c.in-Ok.ensures.new)
