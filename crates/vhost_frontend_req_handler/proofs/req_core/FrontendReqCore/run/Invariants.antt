-- So many calls were answered, and there is room for the rest.
use Rattle.std.proofs.Common.{◌≤◌, ◌+◌, ◌-◌, vec_len}
use Rattle.std.specs.Prelude.{vec_capacity}
use Rattle.vhost_message.specs.BackendReq.{backend_request_of}
use Rattle.vhost_protocol.specs.Reverse.{ReverseMeets, Server, backend_allows_handles}
use Rattle.vhost_frontend_req_handler.specs.Core.{endpoint_of, server_in}
use Rattle.vhost_frontend_req_handler.specs.Handling.{fitting, kept}
use Rattle.vhost_connection.proofs.Running.{Ran}
use Rattle.vhost_frontend_req_handler.proofs.req_core.FrontendReqCore.run.Given as goal

abbrev pub invariant-calls : goal.invariant-calls
invariant-calls g l = record {
  ran : Ran g.L.Link.event (λ (_ : Server). backend_request_of) backend_allows_handles (λ (t : Server). t.failed) kept (ReverseMeets (fitting g.D.VhostUserFrontendReqHandlerMut.gives))
      (endpoint_of l.fn.self) (server_in l.fn.self) l.fn.device l.counter l.fn.out.items l.out.items (endpoint_of l.self) (server_in l.self) l.device;
  room : vec_len l.out + (l.count - l.counter) ≤ vec_capacity l.out;
}
