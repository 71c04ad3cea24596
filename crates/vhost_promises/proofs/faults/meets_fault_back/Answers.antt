-- A fault of a device's request or its reply.
use Rattle.vhost_message.specs.BackendReq.{backend_request_of}
use Rattle.vhost_protocol.specs.Reverse.{ReverseMeets, Server, backend_allows_handles}
use Rattle.vhost_frontend_req_handler.specs.Core.{endpoint_of, server_in}
use Rattle.vhost_frontend_req_handler.specs.Handling.{fitting, kept}
use Rattle.vhost_promises.proofs.Faulting.{met-fault}
use Rattle.vhost_promises.proofs.faults.meets_fault_back.Goals as goal

pub returns : goal.returns
returns g c alive met =
    met-fault g.L.Link.event (λ (_ : Server). backend_request_of) backend_allows_handles (λ (t : Server). t.failed) kept (ReverseMeets (fitting g.D.VhostUserFrontendReqHandlerMut.gives))
    (endpoint_of c.args.core.now) (server_in c.args.core.now) c.args.device.now _ _ _ _ (c.handle_request.ensures.handled alive) met
