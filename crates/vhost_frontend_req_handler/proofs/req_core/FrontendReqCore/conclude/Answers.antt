-- What a call became goes out.
use Rattle.std.proofs.Common.{◌≡◌, ◌∙◌, Err, subst}
use Rattle.std.proofs.lemmas.Result.{err_from_is_err_and}
use Rattle.vhost_message.specs.declared.backend_req.BackendReq.{BackendReq}
use Rattle.vhost_protocol.specs.IoError.{seen_io_result}
use Rattle.vhost_connection.specs.declared.request.Request.{Request}
use Rattle.vhost_connection.proofs.Serving.{replies-told, stops-told}
use Rattle.vhost_frontend_req_handler.specs.Core.{endpoint_of, server_in}
use Rattle.vhost_frontend_req_handler.specs.Halves.{Concludes, concluded, stopped}
use Rattle.vhost_frontend_req_handler.proofs.req_core.FrontendReqCore.conclude.Goals as goal

pub returns-in_err-acknowledge-in-Some-clause-concluded : goal.returns-in_err-acknowledge-in-Some-clause-concluded
returns-in_err-acknowledge-in-Some-clause-concluded g c request is ready =
    let p = err_from_is_err_and c.from_residual.result c.from_residual.ensures.1 in
    let same : c.in-Some.request ≡ request = cc (c.in-Some.ensures.value ∙ is) in
    rw (p.1, p.2) (subst (λ (x : Request BackendReq). Concludes g.L.Link.event x (seen_io_result c.args.answer) (endpoint_of c.args.self.now) (server_in c.args.self.now) (Err c.in_err-acknowledge-in-Some.field-0.0) (endpoint_of c.acknowledge.new.self) (server_in c.acknowledge.new.self)) same
    (stopped (stops-told g.L.Link.event _ _ _ _ (c.in_err-acknowledge-in-Some.ensures.acknowledges (seen_io_result c.args.answer) ready c.number_of-number.ensures.number)) c.acknowledge.ensures.server))

pub returns-in_ok-acknowledge-in-Some-clause-concluded : goal.returns-in_ok-acknowledge-in-Some-clause-concluded
returns-in_ok-acknowledge-in-Some-clause-concluded g c request is ready =
    let same : c.in-Some.request ≡ request = cc (c.in-Some.ensures.value ∙ is) in
    subst (λ (x : Request BackendReq). Concludes g.L.Link.event x (seen_io_result c.args.answer) (endpoint_of c.args.self.now) (server_in c.args.self.now) c.hand_on.result (endpoint_of c.acknowledge.new.self) (server_in c.acknowledge.new.self)) same
    (concluded c.hand_on.ensures (replies-told g.L.Link.event _ _ _ (c.in_ok-acknowledge-in-Some.ensures.acknowledges (seen_io_result c.args.answer) ready c.number_of-number.ensures.number)) c.acknowledge.ensures.server)
