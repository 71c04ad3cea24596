-- A broken endpoint of a handler.
use Rattle.vhost_protocol.specs.Codes.{allows_handles}
use Rattle.vhost_protocol.specs.Handler.{MeetsRow}
use Rattle.vhost_protocol.specs.Session.{Session, heard_in}
use Rattle.vhost_backend_req_handler.specs.Core.{endpoint_of, session_in}
use Rattle.vhost_backend_req_handler.specs.Opening.{OpensAsBackend, OpensAsGpu}
use Rattle.vhost_backend_req_handler.specs.Serving.{fitting, kept_unsent}
use Rattle.vhost_promises.proofs.Unserved.{unserved}
use Rattle.vhost_promises.proofs.runs.serves_no_broken.Goals as goal
use Rattle.vhost_device.specs.Reached.{by_trait}

pub returns : goal.returns
returns g c none cause broken =
    unserved g.L.Link.event heard_in allows_handles (λ (t : Session). t.failed) kept_unsent
    (MeetsRow (fitting (by_trait g.D.VhostUserBackendReqHandlerMut.gives)) (λ h o. OpensAsBackend g.L.Link.opens g.L.Handle.Handle.kinds (endpoint_of c.args.core.now).budget h o) (λ h o. OpensAsGpu g.L.Link.opens g.L.Handle.Handle.kinds (endpoint_of c.args.core.now).budget h o))
    (endpoint_of c.args.core.now) (session_in c.args.core.now) c.args.device.now _ _ _ _ cause broken (c.handle_request.ensures.handled none)
