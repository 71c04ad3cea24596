-- The second half is that of the definitions.
use Rattle.vhost_backend_req_handler_core.proofs.Halves.{concludes}
use Rattle.vhost_backend_req_handler_core.proofs.laws.Laws.concludes_row.Goals as goal

pub returns : goal.returns
returns g c s m call b d regions = concludes _ _ s m b d call regions
