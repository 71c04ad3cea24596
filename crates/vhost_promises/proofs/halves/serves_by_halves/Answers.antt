-- By the contracts of the halves, and their law.
use Rattle.std.proofs.Common.{ℕ, Some, sym, subst}
use Rattle.vhost_message.specs.declared.heard_req.HeardReq.{HeardReq}
use Rattle.vhost_protocol.specs.Row.{row_of}
use Rattle.vhost_protocol.specs.Session.{Session}
use Rattle.vhost_connection.specs.Requests.{IsReady}
use Rattle.vhost_connection.specs.Talk.{State}
use Rattle.vhost_connection.specs.declared.request.Request.{Request}
use Rattle.vhost_backend_req.specs.declared.backend.Backend.{Backend}
use Rattle.vhost_gpu_backend_req.specs.declared.backend.GpuBackend.{GpuBackend}
use Rattle.vhost_backend_req_handler_core.specs.Concluding.{concluded, regions_for}
use Rattle.vhost_backend_req_handler_core.specs.Settling.{settled_by}
use Rattle.vhost_backend_req_handler_core.specs.declared.answer.Then.{Then}
use Rattle.vhost_backend_req_handler_core.specs.declared.settle.Unanswered.{Unanswered}
use Rattle.vhost_backend_req_handler.specs.Calling.{Called}
use Rattle.vhost_backend_req_handler.specs.Core.{endpoint_of, session_in}
use Rattle.vhost_backend_req_handler.specs.Halves.{beside_then}
use Rattle.vhost_backend_req_handler.specs.Opening.{OpensAsBackend, OpensAsGpu}
use Rattle.vhost_backend_req_handler.specs.Serving.{Finishes}
use Rattle.vhost_promises.proofs.halves.serves_by_halves.Goals as goal
use Rattle.vhost_device.specs.Reached.{by_trait}

pub returns-in-Some : goal.returns-in-Some
returns-in-Some g c alive =
    let begun = c.in-Ok.ensures.begun alive in
    let p = begun.pending in
    let q = c.call_device.ensures.pending p begun.is in
    let last = c.call_device.new.self in
    let heard : IsReady (endpoint_of c.begin.new.self) = record { broken = begun.reads.hears.serves.after; faulted = begun.reads.hears.serves.faulted } in
    let ready = subst (λ (x : State g.row.L.Denot g.row.L-Handle.Denot). IsReady x) (sym c.call_device.ensures.endpoint) heard in
    let done = c.conclude.ensures.concluded q.0 q.1 ready in
    let kept = subst (λ (u : Unanswered). Finishes g.L.Link.event q.0.request.code (settled_by u (concluded (session_in last) q.0.request.need_reply (beside_then q.0.then last.service) q.0.then c.in-Some.answer)) (endpoint_of last) (session_in last) c.conclude.result (endpoint_of c.conclude.new.self) (session_in c.conclude.new.self)) q.4 done in
    let told = subst (λ (t : Then). Finishes g.L.Link.event q.0.request.code (settled_by p.unanswered (concluded (session_in last) q.0.request.need_reply (beside_then t last.service) t c.in-Some.answer)) (endpoint_of last) (session_in last) c.conclude.result (endpoint_of c.conclude.new.self) (session_in c.conclude.new.self)) q.3 kept in
    let finished = subst (λ (r : Request HeardReq). Finishes g.L.Link.event r.code (settled_by p.unanswered (concluded (session_in last) r.need_reply (beside_then p.then last.service) p.then c.in-Some.answer)) (endpoint_of last) (session_in last) c.conclude.result (endpoint_of c.conclude.new.self) (session_in c.conclude.new.self)) q.2 told in
    c.halves_law.ensures.served (endpoint_of c.args.core.now).budget c.args.core.now c.begin.new.self last c.conclude.new.self c.args.device.now c.call_device.new.device c.in-Some.answer c.conclude.result begun
    c.call_device.ensures.endpoint c.call_device.ensures.session c.call_device.ensures.regions
    (subst (λ (s : Session). Called (by_trait g.D.VhostUserBackendReqHandlerMut.gives) (λ h o. OpensAsBackend g.L.Link.opens g.L.Handle.Handle.kinds (endpoint_of c.args.core.now).budget h o) (λ h o. OpensAsGpu g.L.Link.opens g.L.Handle.Handle.kinds (endpoint_of c.args.core.now).budget h o) c.args.device.now (beside_then p.then last.service)
    (row_of {B = Backend g.row.L.Denot g.row.L-Handle.Denot} {G = GpuBackend g.row.L.Denot g.row.L-Handle.Denot} begun.reads.message.request s begun.reads.message) (Some c.in-Some.answer) c.call_device.new.device) begun.session
    (subst (λ (n : ℕ). Called (by_trait g.D.VhostUserBackendReqHandlerMut.gives) (λ h o. OpensAsBackend g.L.Link.opens g.L.Handle.Handle.kinds n h o) (λ h o. OpensAsGpu g.L.Link.opens g.L.Handle.Handle.kinds n h o) c.args.device.now (beside_then p.then last.service)
    (row_of {B = Backend g.row.L.Denot g.row.L-Handle.Denot} {G = GpuBackend g.row.L.Denot g.row.L-Handle.Denot} begun.reads.message.request (session_in c.begin.new.self) begun.reads.message) (Some c.in-Some.answer) c.call_device.new.device) begun.reads.hears.serves.talks.budget
    (c.in-Some.ensures.called p begun.reads.message (regions_for p.then last.service.regions) begun.is begun.reads.reads begun.reads.hands))) c.conclude.ensures.sized finished

pub returns-in-Err : goal.returns-in-Err
returns-in-Err g c alive = c.halves_law.ensures.refused (endpoint_of c.args.core.now).budget c.args.core.now c.begin.new.self c.args.device.now c.in-Err.error alive (c.in-Err.ensures.refused alive)
