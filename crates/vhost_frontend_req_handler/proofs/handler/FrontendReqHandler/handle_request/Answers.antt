-- One request, by what others share.
use Rattle.vhost_message.specs.BackendReq.{backend_request_of}
use Rattle.vhost_protocol.specs.Reverse.{ReverseMeets, Server, backend_allows_handles}
use Rattle.vhost_frontend_req_handler.specs.Core.{endpoint_of, server_in}
use Rattle.vhost_frontend_req_handler.specs.Handling.{fitting, kept}
use Rattle.vhost_frontend_req_handler.specs.Sharing.{any_answer}
use Rattle.vhost_connection.proofs.Running.{calls-once, wider-once}
use Rattle.vhost_frontend_req_handler.proofs.Sharing.{meets-any, unseen}
use Rattle.vhost_frontend_req_handler.proofs.handler.FrontendReqHandler.handle_request.Goals as goal

pub returns-clause-served : goal.returns-clause-served
returns-clause-served g c =
    let once = calls-once g.L.Link.event (λ (_ : Server). backend_request_of) backend_allows_handles (λ (t : Server). t.failed) kept _ (endpoint_of c.args.self.now.core) (endpoint_of c.handle_request.new.self)
    (server_in c.args.self.now.core) (server_in c.handle_request.new.self) _ _ c.handle_request.result c.handle_request.ensures.failed c.handle_request.ensures.handled in
    wider-once g.L.Link.event (λ (_ : Server). backend_request_of) backend_allows_handles (λ (t : Server). t.failed) kept _ (ReverseMeets (fitting any_answer)) unseen (meets-any _)
    (endpoint_of c.args.self.now.core) (endpoint_of c.handle_request.new.self) (server_in c.args.self.now.core) (server_in c.handle_request.new.self) _ _ c.handle_request.result once
