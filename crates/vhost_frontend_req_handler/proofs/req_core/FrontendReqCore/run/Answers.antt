-- One more request, and then all of them.
use Rattle.std.proofs.Common.{◌≡◌, ◌+◌, sym, subst, arith}
use Rattle.vhost_message.specs.BackendReq.{backend_request_of}
use Rattle.vhost_protocol.specs.Reverse.{ReverseMeets, Server, backend_allows_handles}
use Rattle.vhost_frontend_req_handler.specs.Core.{endpoint_of, server_in}
use Rattle.vhost_frontend_req_handler.specs.Handling.{fitting, kept, Runs}
use Rattle.vhost_connection.proofs.Running.{Ran, ran-more, ran-all, calls-once}
use Rattle.vhost_frontend_req_handler.proofs.req_core.FrontendReqCore.run.Goals as goal

pub calls-preserved : goal.calls-preserved
calls-preserved g c =
    let once = calls-once g.L.Link.event (λ (_ : Server). backend_request_of) backend_allows_handles (λ (t : Server). t.failed) kept (ReverseMeets (fitting g.D.VhostUserFrontendReqHandlerMut.gives)) (endpoint_of c.calls.self) (endpoint_of c.handle_request-answer.new.self)
    (server_in c.calls.self) (server_in c.handle_request-answer.new.self) c.calls.device c.handle_request-answer.new.device c.handle_request-answer.result c.handle_request-answer.ensures.failed c.handle_request-answer.ensures.handled in
    let more = ran-more g.L.Link.event (λ (_ : Server). backend_request_of) backend_allows_handles (λ (t : Server). t.failed) kept (ReverseMeets (fitting g.D.VhostUserFrontendReqHandlerMut.gives)) (endpoint_of c.args.self.now) (endpoint_of c.calls.self) (endpoint_of c.handle_request-answer.new.self)
    (server_in c.args.self.now) (server_in c.calls.self) (server_in c.handle_request-answer.new.self) c.args.device.now c.calls.device c.handle_request-answer.new.device c.calls.counter c.args.out.now.items c.calls.out.items c.handle_request-answer.result c.calls.invariant.ran once in
    record {
      ran = subst (λ xs. Ran g.L.Link.event (λ (_ : Server). backend_request_of) backend_allows_handles (λ (t : Server). t.failed) kept (ReverseMeets (fitting g.D.VhostUserFrontendReqHandlerMut.gives)) (endpoint_of c.args.self.now) (server_in c.args.self.now) c.args.device.now
          (c.calls.counter + 1) c.args.out.now.items xs (endpoint_of c.handle_request-answer.new.self) (server_in c.handle_request-answer.new.self) c.handle_request-answer.new.device) (sym c.push_reserved.ensures.items) more;
      room = omega (arith, c.calls.invariant.room, c.push_reserved.ensures.len, c.push_reserved.ensures.capacity, c.calls-test.true);
    }

pub returns-clause-run : goal.returns-clause-run
returns-clause-run g c =
    let all : c.calls.counter ≡ c.args.count = omega (arith, c.calls-test.false, c.calls.auto.counter-end) in
    subst (λ n. Runs g.L.Link.event g.D.VhostUserFrontendReqHandlerMut.gives (endpoint_of c.args.self.now) (server_in c.args.self.now) c.args.device.now
    n c.args.out.now.items c.calls.out.items (endpoint_of c.calls.self) (server_in c.calls.self) c.calls.device) all
    (ran-all g.L.Link.event (λ (_ : Server). backend_request_of) backend_allows_handles (λ (t : Server). t.failed) kept (ReverseMeets (fitting g.D.VhostUserFrontendReqHandlerMut.gives)) (endpoint_of c.args.self.now) (endpoint_of c.calls.self)
    (server_in c.args.self.now) (server_in c.calls.self) c.args.device.now c.calls.device c.calls.counter c.args.out.now.items c.calls.out.items c.calls.invariant.ran)
