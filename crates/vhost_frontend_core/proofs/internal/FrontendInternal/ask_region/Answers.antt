-- ADD_MEM_REG: what is asked, and kept.
use Rattle.vhost_frontend_core.proofs.Asking.{keeping}
use Rattle.vhost_frontend_core.proofs.internal.FrontendInternal.ask_region.Goals as goal

pub returns-in-Ok-clause-asked : goal.returns-in-Ok-clause-asked
returns-in-Ok-clause-asked g c = keeping _ c.in-Ok.ensures
