-- The request is the message that was read, and it is served by its row.
use Rattle.std.proofs.Common.{◌≡◌, subst}
use Rattle.vhost_message.specs.declared.heard_req.HeardReq.{HeardReq}
use Rattle.vhost_protocol.specs.Row.{row_of}
use Rattle.vhost_protocol.specs.Split.{Message}
use Rattle.vhost_connection.specs.State.{state}
use Rattle.vhost_backend_req_handler_core.specs.Beginning.{handles_in, message_in}
use Rattle.vhost_backend_req_handler_core.specs.Session.{session_of}
use Rattle.vhost_backend_req_handler.specs.Core.{endpoint_of, session_in}
use Rattle.vhost_backend_req_handler.specs.Opening.{OpensAsBackend, OpensAsGpu}
use Rattle.vhost_backend_req_handler.specs.Serving.{Answers}
use Rattle.vhost_backend_req_handler.proofs.Reading.{message_is}
use Rattle.vhost_backend_req_handler.proofs.session_core.SessionCore.answer.Goals as goal
use Rattle.vhost_device.specs.Reached.{by_trait}

pub returns-clause-meets : goal.returns-clause-meets
returns-clause-meets g c m reads over is ready =
    let i = c.new-message.result in
    let same = message_is _ _ c.args.request c.args.handles.now m i reads over c.new-message.ensures (cc c.deref.ensures) in
    subst (λ (x : Message HeardReq _). Answers g.L.Link.event (by_trait g.D.VhostUserBackendReqHandlerMut.gives) (λ h o. OpensAsBackend g.L.Link.opens g.L.Handle.Handle.kinds (endpoint_of c.args.self.now).budget h o) (λ h o. OpensAsGpu g.L.Link.opens g.L.Handle.Handle.kinds (endpoint_of c.args.self.now).budget h o)
    x (row_of c.args.request.code (session_in c.args.self.now) x) (endpoint_of c.args.self.now) (session_in c.args.self.now) c.args.device.now c.serve.result (state c.serve.new.endpoint) (session_of c.serve.new.self.session) c.serve.new.device) same
    (subst (λ (r : HeardReq). Answers g.L.Link.event (by_trait g.D.VhostUserBackendReqHandlerMut.gives) (λ h o. OpensAsBackend g.L.Link.opens g.L.Handle.Handle.kinds (endpoint_of c.args.self.now).budget h o) (λ h o. OpensAsGpu g.L.Link.opens g.L.Handle.Handle.kinds (endpoint_of c.args.self.now).budget h o)
    (message_in i (handles_in c.args.handles.now)) (row_of r (session_in c.args.self.now) (message_in i (handles_in c.args.handles.now))) (endpoint_of c.args.self.now) (session_in c.args.self.now) c.args.device.now c.serve.result (state c.serve.new.endpoint) (session_of c.serve.new.self.session) c.serve.new.device) c.new-message.ensures.request
    (c.serve.ensures ready))
