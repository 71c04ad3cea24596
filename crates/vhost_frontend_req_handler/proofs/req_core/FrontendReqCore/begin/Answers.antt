-- A request was read, and became a call or was refused.
use Rattle.std.proofs.Common.{◌≡◌, Err, refl, subst}
use Rattle.vhost_message.specs.BackendReq.{backend_request_of}
use Rattle.vhost_message.specs.declared.backend_req.BackendReq.{BackendReq}
use Rattle.vhost_message.specs.declared.error.Error.TheVariants as code
use Rattle.vhost_protocol.specs.Error.{InvalidMessage}
use Rattle.vhost_protocol.specs.IoError.{Of}
use Rattle.vhost_protocol.specs.Reverse.{Calls, ReverseMeets, Server, backend_allows_handles, reverse_row_of, with_number}
use Rattle.vhost_connection.proofs.Serving.{handles-unread, handles-request}
use Rattle.vhost_frontend_req_handler.specs.Calling.{call_in}
use Rattle.vhost_frontend_req_handler.specs.Core.{endpoint_of, server_in}
use Rattle.vhost_frontend_req_handler.specs.Halves.{uncalled}
use Rattle.vhost_frontend_req_handler.specs.Handling.{fitting, kept}
use Rattle.vhost_frontend_req_handler.proofs.Answering.{bad-refused, told_as, unserved-stopped, unserved-told}
use Rattle.vhost_frontend_req_handler.proofs.Rows.{bad_body_answered, call_row, if_error, unserved_answered}
use Rattle.vhost_frontend_req_handler.proofs.req_core.FrontendReqCore.begin.Goals as goal

pub returns-in_err-request-clause-refused : goal.returns-in_err-request-clause-refused
returns-in_err-request-clause-refused g c alive =
    if_error _ _ c.from_residual.result c.from_residual.ensures.1
    (handles-unread g.L.Link.event (λ (_ : Server). backend_request_of) backend_allows_handles (λ (t : Server). t.failed) kept (ReverseMeets (fitting uncalled))
    (endpoint_of c.args.self.now) _ (server_in c.args.self.now) tt c.recv_request.new.body (Err c.in_err-request.field-0.0) _ refl c.in_err-request.ensures)

pub returns-in-Calls-clause-begun : goal.returns-in-Calls-clause-begun
returns-in-Calls-clause-begun g c alive =
    let r = c.in_ok-request.ensures in
    let s = server_in c.args.self.now in
    record {
      request = c.in_ok-request.request;
      is = refl;
      handles = c.in_ok-request.handles;
      reads = r;
      row = subst (λ (x : BackendReq). reverse_row_of x s r.message ≡ Calls (call_in c.in-Calls.call) (with_number s r.message)) r.reads.code (call_row (c.in-Calls.ensures r.message r.reads r.hands));
      server = refl;
    }

pub returns-in_err-acknowledge-in-Unserved-clause-refused : goal.returns-in_err-acknowledge-in-Unserved-clause-refused
returns-in_err-acknowledge-in-Unserved-clause-refused g c alive =
    let e = c.in_err-acknowledge-in-Unserved.field-0.0 in
    if_error _ e c.from_residual-in_err-acknowledge-in-Unserved.result c.from_residual-in_err-acknowledge-in-Unserved.ensures.1
    (handles-request g.L.Link.event (λ (_ : Server). backend_request_of) backend_allows_handles (λ (t : Server). t.failed) kept (ReverseMeets (fitting uncalled))
    (endpoint_of c.args.self.now) _ _ (server_in c.args.self.now) _ tt tt _ c.in_ok-request.request c.in_ok-request.handles (Err e) c.in_ok-request.ensures
    (λ m reads over ready.
    unserved-stopped g.L.Link.event uncalled c.in_ok-request.request.code _ _ m tt tt _ _ e reads.code (unserved_answered (c.in-Unserved.ensures m reads over))
    (told_as (server_in c.args.self.now) c.in_ok-request.request m (Err (Of InvalidMessage)) _ reads (c.in_err-acknowledge-in-Unserved.ensures.acknowledges (Err (Of InvalidMessage)) ready refl)) c.acknowledge.ensures.server))

pub returns-in_ok-acknowledge-in-Unserved-clause-refused : goal.returns-in_ok-acknowledge-in-Unserved-clause-refused
returns-in_ok-acknowledge-in-Unserved-clause-refused g c alive =
    handles-request g.L.Link.event (λ (_ : Server). backend_request_of) backend_allows_handles (λ (t : Server). t.failed) kept (ReverseMeets (fitting uncalled))
    (endpoint_of c.args.self.now) _ _ (server_in c.args.self.now) _ tt tt _ c.in_ok-request.request c.in_ok-request.handles (Err code.InvalidMessage) c.in_ok-request.ensures
    (λ m reads over ready.
    unserved-told g.L.Link.event uncalled c.in_ok-request.request.code _ _ m tt tt _ _ reads.code (unserved_answered (c.in-Unserved.ensures m reads over))
    (told_as (server_in c.args.self.now) c.in_ok-request.request m (Err (Of InvalidMessage)) _ reads (c.in_ok-acknowledge-in-Unserved.ensures.acknowledges (Err (Of InvalidMessage)) ready refl)) c.acknowledge.ensures.server)

pub returns-in-BadBody-clause-refused : goal.returns-in-BadBody-clause-refused
returns-in-BadBody-clause-refused g c alive =
    handles-request g.L.Link.event (λ (_ : Server). backend_request_of) backend_allows_handles (λ (t : Server). t.failed) kept (ReverseMeets (fitting uncalled))
    (endpoint_of c.args.self.now) _ _ (server_in c.args.self.now) _ tt tt _ c.in_ok-request.request c.in_ok-request.handles (Err code.InvalidMessage) c.in_ok-request.ensures
    (λ m reads over ready. bad-refused g.L.Link.event uncalled c.in_ok-request.request.code _ m tt tt _ reads.code (bad_body_answered (c.in-BadBody.ensures m reads over)) ready)
