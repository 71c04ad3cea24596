-- The answers of a run without a fault.
use Rattle.vhost_message.specs.BackendReq.{backend_request_of}
use Rattle.vhost_protocol.specs.Reverse.{ReverseMeets, Server, backend_allows_handles}
use Rattle.vhost_frontend_req_handler.specs.Core.{endpoint_of, server_in}
use Rattle.vhost_frontend_req_handler.specs.Handling.{fitting, kept}
use Rattle.vhost_promises.proofs.Whole.{whole-answers}
use Rattle.vhost_promises.proofs.runs.serves_whole_back.Goals as goal

pub returns : goal.returns
returns g c none =
    whole-answers g.L.Link.event (λ (_ : Server). backend_request_of) backend_allows_handles (λ (t : Server). t.failed) kept (ReverseMeets (fitting g.D.VhostUserFrontendReqHandlerMut.gives))
    (endpoint_of c.args.core.now) (server_in c.args.core.now) c.args.device.now c.args.count _ _ (endpoint_of c.run.new.self) (server_in c.run.new.self) c.run.new.device
    c.in_ok-run.ensures.run c.new-answers.ensures.items none
