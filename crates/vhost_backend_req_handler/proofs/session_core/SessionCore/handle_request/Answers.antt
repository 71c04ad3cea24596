-- One request is read and answered.
use Rattle.std.proofs.Common.{[], refl}
use Rattle.vhost_protocol.specs.Codes.{allows_handles}
use Rattle.vhost_protocol.specs.Handler.{MeetsRow}
use Rattle.vhost_protocol.specs.Session.{Session, heard_in}
use Rattle.vhost_connection.proofs.Serving.{handles-unread, handles-request}
use Rattle.vhost_backend_req_handler.specs.Core.{endpoint_of, session_in}
use Rattle.vhost_backend_req_handler.specs.Opening.{OpensAsBackend, OpensAsGpu}
use Rattle.vhost_backend_req_handler.specs.Serving.{fitting, kept_unsent}
use Rattle.vhost_backend_req_handler.proofs.Handling.{meets-row}
use Rattle.vhost_backend_req_handler.proofs.Limits.{within}
use Rattle.vhost_backend_req_handler.proofs.session_core.SessionCore.handle_request.Goals as goal
use Rattle.vhost_device.specs.Reached.{by_trait}

pub returns-in_err-request-clause-handled : goal.returns-in_err-request-clause-handled
returns-in_err-request-clause-handled g c alive =
    handles-unread g.L.Link.event heard_in allows_handles (λ (t : Session). t.failed) kept_unsent
    (MeetsRow (fitting (by_trait g.D.VhostUserBackendReqHandlerMut.gives)) (λ h o. OpensAsBackend g.L.Link.opens g.L.Handle.Handle.kinds (endpoint_of c.args.self.now).budget h o) (λ h o. OpensAsGpu g.L.Link.opens g.L.Handle.Handle.kinds (endpoint_of c.args.self.now).budget h o))
    (endpoint_of c.args.self.now) _ (session_in c.args.self.now) _ [] c.from_residual.result _ c.from_residual.ensures.1 (rw c.hears_any_number-any_number.ensures at c.in_err-request.ensures)

pub returns-clause-handled : goal.returns-clause-handled
returns-clause-handled g c alive =
    handles-request g.L.Link.event heard_in allows_handles (λ (t : Session). t.failed) kept_unsent
    (MeetsRow (fitting (by_trait g.D.VhostUserBackendReqHandlerMut.gives)) (λ h o. OpensAsBackend g.L.Link.opens g.L.Handle.Handle.kinds (endpoint_of c.args.self.now).budget h o) (λ h o. OpensAsGpu g.L.Link.opens g.L.Handle.Handle.kinds (endpoint_of c.args.self.now).budget h o))
    (endpoint_of c.args.self.now) _ _ (session_in c.args.self.now) _ _ _ _ c.in_ok-request.request c.in_ok-request.handles _ (rw c.hears_any_number-any_number.ensures at c.in_ok-request.ensures)
    (λ m reads over ready. within g.L.Link.event (by_trait g.D.VhostUserBackendReqHandlerMut.gives) g.L.Link.opens g.L.Handle.Handle.kinds _ _ _ _ _ _ m _ (rw c.hears_any_number-any_number.ensures at c.in_ok-request.ensures).hears.serves.talks.budget
    (meets-row g.L.Link.event _ _ _ c.in_ok-request.request.code _ _ _ _ _ _ m _ reads.code (c.answer.ensures.meets m reads over refl ready)))
