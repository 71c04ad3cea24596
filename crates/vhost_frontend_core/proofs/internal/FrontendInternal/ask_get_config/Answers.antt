-- GET_CONFIG: what is asked.
use Rattle.vhost_frontend_core.specs.Asking.AsksWithRoom.{roomy}
use Rattle.vhost_frontend_core.proofs.Asking.{stops, passes, passes-room}
use Rattle.vhost_frontend_core.proofs.internal.FrontendInternal.ask_get_config.Goals as goal

pub returns-in_err-part-clause-asked : goal.returns-in_err-part-clause-asked
returns-in_err-part-clause-asked g c = roomy (stops _ _ c.from_residual.ensures.1 c.in_err-part.ensures.test)

pub returns-in_err-needs-clause-asked : goal.returns-in_err-needs-clause-asked
returns-in_err-needs-clause-asked g c = roomy (passes c.in_ok-part.ensures.test (stops _ _ c.from_residual-in_err-needs.ensures.1 c.in_err-needs.ensures))

pub returns-in_err-fits-clause-asked : goal.returns-in_err-fits-clause-asked
returns-in_err-fits-clause-asked g c = roomy (passes c.in_ok-part.ensures.test (passes c.in_ok-needs.ensures (stops _ _ c.from_residual-in_err-fits.ensures.1 c.in_err-fits.ensures.test)))

pub returns-clause-asked : goal.returns-clause-asked
returns-clause-asked g c =
    passes-room c.in_ok-part.ensures.test (passes-room c.in_ok-needs.ensures (passes-room c.in_ok-fits.ensures.test (rw (c.in_ok-part.ensures.same) at c.ask_bytes.ensures.asked)))
