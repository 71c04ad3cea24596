-- One request, with a device that others share.
use Rattle.vhost_protocol.specs.Codes.{allows_handles}
use Rattle.vhost_protocol.specs.Handler.{MeetsRow}
use Rattle.vhost_protocol.specs.Session.{Session, heard_in}
use Rattle.vhost_connection.proofs.Running.{calls-once, wider-once}
use Rattle.vhost_backend_req_handler.specs.Core.{endpoint_of, session_in}
use Rattle.vhost_backend_req_handler.specs.Serving.{fitting, kept_unsent}
use Rattle.vhost_backend_req_handler.specs.Sharing.{any_answer}
use Rattle.vhost_backend_req_handler.proofs.Sharing.{meets-any, unseen}
use Rattle.vhost_backend_req_handler.proofs.handler.BackendReqHandler.handle_request.Goals as goal

pub returns : goal.returns
returns g c =
    let once = calls-once g.L.Link.event heard_in allows_handles (λ (t : Session). t.failed) kept_unsent _ (endpoint_of c.args.self.now.core) (endpoint_of c.handle_request.new.self)
    (session_in c.args.self.now.core) (session_in c.handle_request.new.self) _ _ c.handle_request.result c.handle_request.ensures.failed c.handle_request.ensures.handled in
    wider-once g.L.Link.event heard_in allows_handles (λ (t : Session). t.failed) kept_unsent _ (MeetsRow (fitting any_answer) _ _) unseen (meets-any _ _ _)
    (endpoint_of c.args.self.now.core) (endpoint_of c.handle_request.new.self) (session_in c.args.self.now.core) (session_in c.handle_request.new.self) _ _ c.handle_request.result once
