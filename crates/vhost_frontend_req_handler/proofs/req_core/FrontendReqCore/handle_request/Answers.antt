-- One request is read and answered.
use Rattle.std.proofs.Common.{[]}
use Rattle.vhost_message.specs.BackendReq.{backend_request_of}
use Rattle.vhost_protocol.specs.Reverse.{ReverseMeets, Server, backend_allows_handles}
use Rattle.vhost_frontend_req_handler.specs.Core.{endpoint_of, server_in}
use Rattle.vhost_frontend_req_handler.specs.Handling.{fitting, kept}
use Rattle.vhost_connection.proofs.Serving.{handles-unread, handles-request}
use Rattle.vhost_frontend_req_handler.proofs.req_core.FrontendReqCore.handle_request.Goals as goal

pub returns-in_err-request-clause-handled : goal.returns-in_err-request-clause-handled
returns-in_err-request-clause-handled g c alive =
    handles-unread g.L.Link.event (λ (_ : Server). backend_request_of) backend_allows_handles (λ (t : Server). t.failed) kept (ReverseMeets (fitting g.D.VhostUserFrontendReqHandlerMut.gives))
    (endpoint_of c.args.self.now) _ (server_in c.args.self.now) _ [] c.from_residual.result _ c.from_residual.ensures.1 c.in_err-request.ensures

pub returns-clause-handled : goal.returns-clause-handled
returns-clause-handled g c alive =
    handles-request g.L.Link.event (λ (_ : Server). backend_request_of) backend_allows_handles (λ (t : Server). t.failed) kept (ReverseMeets (fitting g.D.VhostUserFrontendReqHandlerMut.gives)) (endpoint_of c.args.self.now) _ _
    (server_in c.args.self.now) _ _ _ _ c.in_ok-request.request c.in_ok-request.handles _ c.in_ok-request.ensures (λ m reads over ready. c.answer.ensures.meets m reads over ready)
