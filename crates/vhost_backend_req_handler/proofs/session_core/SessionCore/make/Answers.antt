-- The call of the message that was read was made.
use Rattle.std.proofs.Common.{◌≡◌, ◌∙◌, [], Ok, Option, ap, subst, sym}
use Rattle.vhost_message.specs.declared.heard_req.HeardReq.{HeardReq}
use Rattle.vhost_protocol.specs.Row.{row_of}
use Rattle.vhost_protocol.specs.Split.{Message}
use Rattle.vhost_protocol.specs.Step.{Step}
use Rattle.vhost_backend_req.specs.declared.backend.Backend.{Backend}
use Rattle.vhost_gpu_backend_req.specs.declared.backend.GpuBackend.{GpuBackend}
use Rattle.vhost_backend_req_handler_core.specs.Beginning.{handles_in, message_in, step_of}
use Rattle.vhost_backend_req_handler_core.specs.Fits.{Makes}
use Rattle.vhost_backend_req_handler_core.specs.declared.answer.DeviceAnswer.{DeviceAnswer}
use Rattle.vhost_backend_req_handler.specs.Calling.{Called, beside}
use Rattle.vhost_backend_req_handler.specs.Core.{endpoint_of, session_in}
use Rattle.vhost_backend_req_handler.specs.Opening.{OpensAsBackend, OpensAsGpu}
use Rattle.vhost_backend_req_handler.proofs.Finishing.{answered_by, begun_as, if_some, unmakes}
use Rattle.vhost_backend_req_handler.proofs.Reading.{message_is}
use Rattle.vhost_backend_req_handler.proofs.session_core.SessionCore.make.Goals as goal
use Rattle.vhost_device.specs.Reached.{by_trait}

pub returns-in-Ok-Calls-clause-called : goal.returns-in-Ok-Calls-clause-called
returns-in-Ok-Calls-clause-called g c m rs reads over =
    let B = Backend g.row.L.Denot g.row.L-Handle.Denot in
    let G = GpuBackend g.row.L.Denot g.row.L-Handle.Denot in
    let s = session_in c.args.self.now in
    let i = c.new-message.result in
    let read = message_in i (handles_in c.args.pending.now.handles) in
    let same = message_is _ _ c.args.pending.now.request c.args.pending.now.handles m i reads over c.new-message.ensures (cc c.deref.ensures) in
    let row = begun_as s read c.begin.ensures (c.in-Ok-Calls.is ∙ ap (λ x. Ok x) c.in-Ok-Calls.field-0-is) in
    if_some (λ r. Called (by_trait g.D.VhostUserBackendReqHandlerMut.gives) (λ h o. OpensAsBackend g.L.Link.opens g.L.Handle.Handle.kinds (endpoint_of c.args.self.now).budget h o) (λ h o. OpensAsGpu g.L.Link.opens g.L.Handle.Handle.kinds (endpoint_of c.args.self.now).budget h o) c.args.device.now (beside rs c.call_device.new.self.shmem) (row_of {B = B} {G = G} m.request s m) r c.call_device.new.device) c.call_device.result
    (subst (λ (x : Message HeardReq g.row.L-Handle.Denot). Called (by_trait g.D.VhostUserBackendReqHandlerMut.gives) (λ h o. OpensAsBackend g.L.Link.opens g.L.Handle.Handle.kinds (endpoint_of c.args.self.now).budget h o) (λ h o. OpensAsGpu g.L.Link.opens g.L.Handle.Handle.kinds (endpoint_of c.args.self.now).budget h o) c.args.device.now (beside rs c.call_device.new.self.shmem) (row_of {B = B} {G = G} x.request s x) c.call_device.result c.call_device.new.device) same
    (subst (λ (step : Step g.row.L-Handle.Denot B G). Called (by_trait g.D.VhostUserBackendReqHandlerMut.gives) (λ h o. OpensAsBackend g.L.Link.opens g.L.Handle.Handle.kinds (endpoint_of c.args.self.now).budget h o) (λ h o. OpensAsGpu g.L.Link.opens g.L.Handle.Handle.kinds (endpoint_of c.args.self.now).budget h o) c.args.device.now (beside rs c.call_device.new.self.shmem) step c.call_device.result c.call_device.new.device) row
    (c.call_device.ensures.called s read rs)))

pub returns-in-Ok-Calls-clause-some : goal.returns-in-Ok-Calls-clause-some
returns-in-Ok-Calls-clause-some g c m reads over makes =
    let B = Backend g.row.L.Denot g.row.L-Handle.Denot in
    let G = GpuBackend g.row.L.Denot g.row.L-Handle.Denot in
    let s = session_in c.args.self.now in
    let i = c.new-message.result in
    let read = message_in i (handles_in c.args.pending.now.handles) in
    let same = message_is _ _ c.args.pending.now.request c.args.pending.now.handles m i reads over c.new-message.ensures (cc c.deref.ensures) in
    let row = begun_as s read c.begin.ensures (c.in-Ok-Calls.is ∙ ap (λ x. Ok x) c.in-Ok-Calls.field-0-is) in
    answered_by (by_trait g.D.VhostUserBackendReqHandlerMut.gives) (λ h o. OpensAsBackend g.L.Link.opens g.L.Handle.Handle.kinds (endpoint_of c.args.self.now).budget h o) (λ h o. OpensAsGpu g.L.Link.opens g.L.Handle.Handle.kinds (endpoint_of c.args.self.now).budget h o) c.args.device.now c.call_device.new.device (beside [] c.call_device.new.self.shmem) (step_of s read c.in-Ok-Calls.call) c.call_device.result
    (subst (λ (x : Step g.row.L-Handle.Denot B G). Makes x) (sym row) (subst (λ (x : Message HeardReq g.row.L-Handle.Denot). Makes (row_of {B = B} {G = G} x.request s x)) (sym same) makes))
    (c.call_device.ensures.called s read [])

pub returns-in-Ok-Refuses-clause-some : goal.returns-in-Ok-Refuses-clause-some
returns-in-Ok-Refuses-clause-some g c m reads over makes =
    let s = session_in c.args.self.now in
    let i = c.new-message.result in
    let read = message_in i (handles_in c.args.pending.now.handles) in
    let same = message_is _ _ c.args.pending.now.request c.args.pending.now.handles m i reads over c.new-message.ensures (cc c.deref.ensures) in
    absurd (unmakes s read m _ (begun_as s read c.begin.ensures (c.in-Ok-Refuses.is ∙ ap (λ x. Ok x) c.in-Ok-Refuses.field-0-is)) same makes)

pub returns-in-Err-clause-some : goal.returns-in-Err-clause-some
returns-in-Err-clause-some g c m reads over makes =
    let s = session_in c.args.self.now in
    let i = c.new-message.result in
    let read = message_in i (handles_in c.args.pending.now.handles) in
    let same = message_is _ _ c.args.pending.now.request c.args.pending.now.handles m i reads over c.new-message.ensures (cc c.deref.ensures) in
    absurd (unmakes s read m _ (begun_as s read c.begin.ensures c.in-Err.is) same makes)
