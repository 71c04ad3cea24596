-- One more request, and then all of them.
use Rattle.std.proofs.Common.{◌≡◌, ◌∙◌, ◌+◌, sym, subst, arith}
use Rattle.vhost_protocol.specs.Codes.{allows_handles}
use Rattle.vhost_protocol.specs.Handler.{MeetsRow}
use Rattle.vhost_protocol.specs.Session.{Session, heard_in}
use Rattle.vhost_connection.proofs.Running.{Ran, ran-more, ran-all, calls-once}
use Rattle.vhost_backend_req_handler.specs.Core.{endpoint_of, session_in}
use Rattle.vhost_backend_req_handler.specs.Opening.{OpensAsBackend, OpensAsGpu}
use Rattle.vhost_backend_req_handler.specs.Serving.{fitting, kept_unsent, Runs}
use Rattle.vhost_backend_req_handler.proofs.Limits.{once-keeps, once-within}
use Rattle.vhost_backend_req_handler.proofs.Handling.{idle-after}
use Rattle.vhost_backend_req_handler.proofs.session_core.SessionCore.run.Goals as goal
use Rattle.vhost_device.specs.Reached.{by_trait}

pub calls-preserved : goal.calls-preserved
calls-preserved g c =
    let once = calls-once g.L.Link.event heard_in allows_handles (λ (t : Session). t.failed) kept_unsent
    (MeetsRow (fitting (by_trait g.D.VhostUserBackendReqHandlerMut.gives)) (λ h o. OpensAsBackend g.L.Link.opens g.L.Handle.Handle.kinds (endpoint_of c.calls.self).budget h o) (λ h o. OpensAsGpu g.L.Link.opens g.L.Handle.Handle.kinds (endpoint_of c.calls.self).budget h o)) (endpoint_of c.calls.self) (endpoint_of c.handle_request-answer.new.self)
    (session_in c.calls.self) (session_in c.handle_request-answer.new.self) c.calls.device c.handle_request-answer.new.device c.handle_request-answer.result c.handle_request-answer.ensures.failed c.handle_request-answer.ensures.handled in
    let limited = once-within g.L.Link.event (by_trait g.D.VhostUserBackendReqHandlerMut.gives) g.L.Link.opens g.L.Handle.Handle.kinds (endpoint_of c.calls.self) (endpoint_of c.handle_request-answer.new.self)
    (session_in c.calls.self) (session_in c.handle_request-answer.new.self) c.calls.device c.handle_request-answer.new.device c.handle_request-answer.result c.calls.invariant.budget once in
    let more = ran-more g.L.Link.event heard_in allows_handles (λ (t : Session). t.failed) kept_unsent
    (MeetsRow (fitting (by_trait g.D.VhostUserBackendReqHandlerMut.gives)) (λ h o. OpensAsBackend g.L.Link.opens g.L.Handle.Handle.kinds (endpoint_of c.args.self.now).budget h o) (λ h o. OpensAsGpu g.L.Link.opens g.L.Handle.Handle.kinds (endpoint_of c.args.self.now).budget h o)) (endpoint_of c.args.self.now) (endpoint_of c.calls.self) (endpoint_of c.handle_request-answer.new.self)
    (session_in c.args.self.now) (session_in c.calls.self) (session_in c.handle_request-answer.new.self) c.args.device.now c.calls.device c.handle_request-answer.new.device c.calls.counter c.args.out.now.items c.calls.out.items c.handle_request-answer.result c.calls.invariant.ran limited in
    record {
      ran = subst (λ xs. Ran g.L.Link.event heard_in allows_handles (λ (t : Session). t.failed) kept_unsent
          (MeetsRow (fitting (by_trait g.D.VhostUserBackendReqHandlerMut.gives)) (λ h o. OpensAsBackend g.L.Link.opens g.L.Handle.Handle.kinds (endpoint_of c.args.self.now).budget h o) (λ h o. OpensAsGpu g.L.Link.opens g.L.Handle.Handle.kinds (endpoint_of c.args.self.now).budget h o)) (endpoint_of c.args.self.now) (session_in c.args.self.now) c.args.device.now
          (c.calls.counter + 1) c.args.out.now.items xs (endpoint_of c.handle_request-answer.new.self) (session_in c.handle_request-answer.new.self) c.handle_request-answer.new.device) (sym c.push_reserved.ensures.items) more;
      budget = once-keeps g.L.Link.event _ (endpoint_of c.calls.self) (endpoint_of c.handle_request-answer.new.self) (session_in c.calls.self) (session_in c.handle_request-answer.new.self) c.calls.device c.handle_request-answer.new.device
          (session_in c.calls.self).failed c.handle_request-answer.result once ∙ c.calls.invariant.budget;
      idle = λ none. idle-after _ _ _ c.handle_request-answer.ensures.idle c.handle_request-answer.ensures.kept (c.calls.invariant.idle none);
      room = omega (arith, c.calls.invariant.room, c.push_reserved.ensures.len, c.push_reserved.ensures.capacity, c.calls-test.true);
    }

pub returns-clause-run : goal.returns-clause-run
returns-clause-run g c =
    let all : c.calls.counter ≡ c.args.count = omega (arith, c.calls-test.false, c.calls.auto.counter-end) in
    subst (λ n. Runs g.L.Link.event (by_trait g.D.VhostUserBackendReqHandlerMut.gives) (λ h o. OpensAsBackend g.L.Link.opens g.L.Handle.Handle.kinds (endpoint_of c.args.self.now).budget h o) (λ h o. OpensAsGpu g.L.Link.opens g.L.Handle.Handle.kinds (endpoint_of c.args.self.now).budget h o) (endpoint_of c.args.self.now) (session_in c.args.self.now) c.args.device.now
    n c.args.out.now.items c.calls.out.items (endpoint_of c.calls.self) (session_in c.calls.self) c.calls.device) all
    (ran-all g.L.Link.event heard_in allows_handles (λ (t : Session). t.failed) kept_unsent
    (MeetsRow (fitting (by_trait g.D.VhostUserBackendReqHandlerMut.gives)) (λ h o. OpensAsBackend g.L.Link.opens g.L.Handle.Handle.kinds (endpoint_of c.args.self.now).budget h o) (λ h o. OpensAsGpu g.L.Link.opens g.L.Handle.Handle.kinds (endpoint_of c.args.self.now).budget h o)) (endpoint_of c.args.self.now) (endpoint_of c.calls.self)
    (session_in c.args.self.now) (session_in c.calls.self) c.args.device.now c.calls.device c.calls.counter c.args.out.now.items c.calls.out.items c.calls.invariant.ran)
