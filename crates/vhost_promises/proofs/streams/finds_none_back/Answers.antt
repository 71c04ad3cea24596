-- A stream without a message, of a device's requests.
use Rattle.std.proofs.Common.{[], ap}
use Rattle.vhost_message.specs.BackendReq.{backend_request_of}
use Rattle.vhost_protocol.specs.Error.{Disconnected, InvalidMessage, PartialMessage}
use Rattle.vhost_protocol.specs.Reverse.{ReverseMeets, Server, backend_allows_handles}
use Rattle.vhost_protocol.specs.Split.{split, split_after, split_body, body_outcome}
use Rattle.vhost_frontend_req_handler.specs.Core.{endpoint_of, server_in}
use Rattle.vhost_frontend_req_handler.specs.Handling.{fitting, kept}
use Rattle.vhost_promises.proofs.Known.{one-none}
use Rattle.vhost_promises.proofs.streams.finds_none_back.Goals as goal

pub returns-clause-known : goal.returns-clause-known
returns-clause-known g c e rest none alive sound =
    one-none (λ (_ : Server). backend_request_of) backend_allows_handles (λ (t : Server). t.failed) kept (ReverseMeets (fitting g.D.VhostUserFrontendReqHandlerMut.gives)) c.talks_law.ensures.talks
    (endpoint_of c.args.core.now) (server_in c.args.core.now) c.args.device.now _ (endpoint_of c.handle_request.new.self) (server_in c.handle_request.new.self) c.handle_request.new.device e rest none sound
    (c.handle_request.ensures.handled alive)

pub returns-clause-body : goal.returns-clause-body
unfolding split split_after split_body body_outcome
returns-clause-body g c is = returns-clause-known g c InvalidMessage [] (ap (split backend_request_of backend_allows_handles) is)

pub returns-clause-header : goal.returns-clause-header
unfolding split split_after split_body body_outcome
returns-clause-header g c is = returns-clause-known g c PartialMessage [] (ap (split backend_request_of backend_allows_handles) is)

pub returns-clause-end : goal.returns-clause-end
unfolding split split_after split_body body_outcome
returns-clause-end g c is = returns-clause-known g c Disconnected [] (ap (split backend_request_of backend_allows_handles) is)

pub returns-clause-version : goal.returns-clause-version
unfolding split split_after split_body body_outcome
returns-clause-version g c is = returns-clause-known g c InvalidMessage [] (ap (split backend_request_of backend_allows_handles) is)
