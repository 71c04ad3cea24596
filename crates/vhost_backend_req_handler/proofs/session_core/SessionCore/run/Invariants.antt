-- So many calls were answered, none was opened, and there is room for the rest.
use Rattle.std.proofs.Common.{◌≡◌, ◌≤◌, ◌+◌, ◌-◌, vec_len}
use Rattle.std.specs.Prelude.{vec_capacity, is_some, false}
use Rattle.vhost_protocol.specs.Codes.{allows_handles}
use Rattle.vhost_protocol.specs.Handler.{MeetsRow}
use Rattle.vhost_protocol.specs.Session.{Session, heard_in}
use Rattle.vhost_connection.proofs.Running.{Ran}
use Rattle.vhost_backend_req_handler.specs.Core.{endpoint_of, session_in}
use Rattle.vhost_backend_req_handler.specs.Opening.{OpensAsBackend, OpensAsGpu}
use Rattle.vhost_backend_req_handler.specs.Serving.{fitting, kept_unsent}
use Rattle.vhost_backend_req_handler.proofs.session_core.SessionCore.run.Given as goal
use Rattle.vhost_device.specs.Reached.{by_trait}

abbrev pub invariant-calls : goal.invariant-calls
invariant-calls g l = record {
  ran : Ran g.L.Link.event heard_in allows_handles (λ (t : Session). t.failed) kept_unsent
      (MeetsRow (fitting (by_trait g.D.VhostUserBackendReqHandlerMut.gives)) (λ h o. OpensAsBackend g.L.Link.opens g.L.Handle.Handle.kinds (endpoint_of l.fn.self).budget h o) (λ h o. OpensAsGpu g.L.Link.opens g.L.Handle.Handle.kinds (endpoint_of l.fn.self).budget h o))
      (endpoint_of l.fn.self) (session_in l.fn.self) l.fn.device l.counter l.fn.out.items l.out.items (endpoint_of l.self) (session_in l.self) l.device;
  budget : (endpoint_of l.self).budget ≡ (endpoint_of l.fn.self).budget;
  idle : is_some l.fn.self.pending ≡ false → is_some l.self.pending ≡ false;
  room : vec_len l.out + (l.count - l.counter) ≤ vec_capacity l.out;
}
