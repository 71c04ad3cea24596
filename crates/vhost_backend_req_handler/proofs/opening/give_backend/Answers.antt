-- The channel was opened and given, or could not be opened.
use Rattle.std.proofs.Common.{inl, inr, refl}
use Rattle.vhost_protocol.specs.Error.{seen}
use Rattle.vhost_backend_req_handler.proofs.opening.give_backend.Goals as goal

pub returns-in-Ok-clause-gives : goal.returns-in-Ok-clause-gives
returns-in-Ok-clause-gives g c = inl (c.in-Ok.backend, c.in-Ok.ensures.opened, refl, c.set_backend_req_fd.ensures)

pub returns-in-Err-clause-gives : goal.returns-in-Err-clause-gives
returns-in-Err-clause-gives g c = inr (seen c.in-Err.error, c.in-Err.ensures.opened, refl, refl)
