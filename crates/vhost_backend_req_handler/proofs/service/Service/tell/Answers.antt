-- The peer knows.
use Rattle.std.proofs.Common.{refl}
use Rattle.vhost_connection.specs.Requests as requests
use Rattle.vhost_connection.proofs.Serving.{none-sent}
use Rattle.vhost_backend_req_handler.proofs.service.Service.tell.Goals as goal

pub returns-in-Silent : goal.returns-in-Silent
returns-in-Silent g c ready = rw c.in-Silent.is (requests.whole refl (none-sent g.L.Link.event _ ready))
