-- A request was read, and became a call or was refused.
use Rattle.std.proofs.Common.{◌≡◌, ◌∙◌, Ok, Err, refl, ap, subst, sym}
use Rattle.vhost_message.specs.declared.heard_req.HeardReq.{HeardReq}
use Rattle.vhost_protocol.specs.Codes.{allows_handles}
use Rattle.vhost_protocol.specs.Handler.{MeetsRow}
use Rattle.vhost_protocol.specs.Row.{row_of}
use Rattle.vhost_protocol.specs.Session.{Session, heard_in}
use Rattle.vhost_protocol.specs.Split.{Message, split}
use Rattle.vhost_connection.specs.Hearing.{Hears}
use Rattle.vhost_connection.specs.State.{state}
use Rattle.vhost_connection.specs.Talk.{State}
use Rattle.vhost_connection.proofs.Serving.{handles-unread, handles-request}
use Rattle.vhost_backend_req.specs.declared.backend.Backend.{Backend}
use Rattle.vhost_gpu_backend_req.specs.declared.backend.GpuBackend.{GpuBackend}
use Rattle.vhost_backend_req_handler_core.specs.Beginning.{handles_in}
use Rattle.vhost_backend_req_handler_core.specs.Session.{session_of}
use Rattle.vhost_backend_req_handler_core.specs.Settling.{Settles}
use Rattle.vhost_backend_req_handler.specs.Core.{endpoint_of, session_in}
use Rattle.vhost_backend_req_handler.specs.Halves.{Denies, Prepares, uncalled, unopened}
use Rattle.vhost_backend_req_handler.specs.Serving.{HandlesOne, fitting, kept_unsent}
use Rattle.vhost_backend_req_handler.proofs.Finishing.{if_error}
use Rattle.vhost_backend_req_handler.proofs.Handling.{meets-row}
use Rattle.vhost_backend_req_handler.proofs.Reading.{message_is}
use Rattle.vhost_backend_req_handler.proofs.session_core.SessionCore.begin.Goals as goal

pub returns-in_err-request-clause-refused : goal.returns-in_err-request-clause-refused
returns-in_err-request-clause-refused g c alive =
    let B = Backend g.row.L.Denot g.row.L-Handle.Denot in
    let G = GpuBackend g.row.L.Denot g.row.L-Handle.Denot in
    if_error (λ r. HandlesOne g.L.Link.event (uncalled B G) (λ h o. ⊥) (λ h o. ⊥) (endpoint_of c.args.self.now) (session_in c.args.self.now) tt r (state c.recv_request.new.self) (session_in c.args.self.now) tt)
    _ c.from_residual.result c.from_residual.ensures.1
    (handles-unread g.L.Link.event heard_in allows_handles (λ (t : Session). t.failed) kept_unsent (MeetsRow (fitting (uncalled B G)) (λ h o. ⊥) (λ h o. ⊥))
    (endpoint_of c.args.self.now) _ (session_in c.args.self.now) tt c.recv_request.new.body c.from_residual.result _ c.from_residual.ensures.1 (rw c.hears_any_number-any_number.ensures at c.in_err-request.ensures))

pub returns-in-Ok-clause-begun : goal.returns-in-Ok-clause-begun
returns-in-Ok-clause-begun g c alive =
    let r = (rw c.hears_any_number-any_number.ensures at c.in_ok-request.ensures) in
    let i = c.new-message.result in
    let begun = c.in-Ok.ensures.begun (record { broken = r.hears.serves.after; faulted = r.hears.serves.faulted }) in
    let same = message_is _ _ c.in_ok-request.request c.in_ok-request.handles r.message i r.reads r.hands c.new-message.ensures (cc c.deref.ensures) in
    record {
      pending = _;
      is = refl;
      reads = record {
        message = r.message;
        reads = r.reads;
        hands = r.hands;
        hears = subst (λ (x : State g.row.L.Denot g.row.L-Handle.Denot). Hears g.L.Link.event (split (heard_in (session_in c.args.self.now)) allows_handles) (endpoint_of c.args.self.now) (Ok r.message) x) (sym begun.1) r.hears;
        list = ap (λ (x : State g.row.L.Denot g.row.L-Handle.Denot). x.list) begun.1 ∙ r.list;
      };
      settles = subst (λ (x : Message HeardReq g.row.L-Handle.Denot). Settles (session_in c.args.self.now) x c.unanswered-unanswered.result) same (c.unanswered-unanswered.ensures (handles_in c.in_ok-request.handles));
      prepares = subst (λ (x : Message HeardReq g.row.L-Handle.Denot). Prepares (Backend g.row.L.Denot g.row.L-Handle.Denot) (GpuBackend g.row.L.Denot g.row.L-Handle.Denot) (session_in c.args.self.now) x c.in-Ok.then c.begin.new.self.regions) same begun.0;
      session = ap (λ t. session_of t) begun.2;
    }

pub returns-in-Err-clause-refused : goal.returns-in-Err-clause-refused
returns-in-Err-clause-refused g c alive =
    let B = Backend g.row.L.Denot g.row.L-Handle.Denot in
    let G = GpuBackend g.row.L.Denot g.row.L-Handle.Denot in
    let i = c.new-message.result in
    handles-request g.L.Link.event heard_in allows_handles (λ (t : Session). t.failed) kept_unsent
    (MeetsRow (fitting (uncalled B G)) (λ h o. ⊥) (λ h o. ⊥))
    (endpoint_of c.args.self.now) _ _ (session_in c.args.self.now) _ tt tt _ c.in_ok-request.request c.in_ok-request.handles (Err c.in-Err.error) (rw c.hears_any_number-any_number.ensures at c.in_ok-request.ensures)
    (λ m reads over ready.
    let same = message_is _ _ c.in_ok-request.request c.in_ok-request.handles m i reads over c.new-message.ensures (cc c.deref.ensures) in
    meets-row g.L.Link.event (uncalled B G) (λ h o. ⊥) (λ h o. ⊥) m.request _ _ _ _ tt tt m _ refl
    (subst (λ (x : Message HeardReq g.row.L-Handle.Denot). Denies B G g.L.Link.event x (row_of x.request (session_in c.args.self.now) x) (state c.recv_request.new.self) (session_in c.args.self.now) c.in-Err.error (state c.begin.new.endpoint) (session_of c.begin.new.self.session)) same (c.in-Err.ensures.refused ready (c.unanswered-unanswered.ensures (handles_in c.in_ok-request.handles)))))
