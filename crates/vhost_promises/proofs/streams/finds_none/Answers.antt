-- A stream without a message, of a frontend's requests.
use Rattle.std.proofs.Common.{◌≡◌, Bool, true, false, [], Err, refl, ap, ◌∙◌}
use Rattle.vhost_message.specs.Codes.{heard_by}
use Rattle.vhost_message.specs.HeardReq.{request_of, any_request}
use Rattle.vhost_protocol.specs.Codes.{allows_handles}
use Rattle.vhost_protocol.specs.Error.{Disconnected, InvalidMessage, PartialMessage}
use Rattle.vhost_protocol.specs.Handler.{MeetsRow}
use Rattle.vhost_protocol.specs.Profile.{is_standard}
use Rattle.vhost_protocol.specs.Session.{Session, heard_in}
use Rattle.vhost_protocol.specs.Split.{split, split_after, split_body, body_outcome}
use Rattle.vhost_protocol.specs.Stream.{plain}
use Rattle.vhost_link.specs.declared.plain.PlainHandle.{PlainHandle}
use Rattle.vhost_backend_req_handler.specs.Core.{endpoint_of, session_in}
use Rattle.vhost_backend_req_handler.specs.Opening.{OpensAsBackend, OpensAsGpu}
use Rattle.vhost_backend_req_handler.specs.Serving.{fitting, kept_unsent}
use Rattle.vhost_joined.specs.Device.{opens, kinds}
use Rattle.vhost_promises.specs.Streams.{in_body}
use Rattle.vhost_promises.proofs.Known.{one-none}
use Rattle.vhost_promises.proofs.streams.finds_none.Goals as goal
use Rattle.vhost_device.specs.Reached.{by_trait}

pub returns-clause-known : goal.returns-clause-known
returns-clause-known g c e rest none alive sound =
    one-none heard_in allows_handles (λ (t : Session). t.failed) kept_unsent
    (MeetsRow (fitting (by_trait g.D.VhostUserBackendReqHandlerMut.gives)) (λ h o. OpensAsBackend opens kinds (endpoint_of c.args.core.now).budget h o) (λ h o. OpensAsGpu opens kinds (endpoint_of c.args.core.now).budget h o)) c.talks_law.ensures.talks
    (endpoint_of c.args.core.now) (session_in c.args.core.now) c.args.device.now _ (endpoint_of c.handle_request.new.self) (session_in c.handle_request.new.self) c.handle_request.new.device e rest none sound
    (c.handle_request.ensures.handled alive)

pub returns-clause-body : goal.returns-clause-body
unfolding split split_after split_body body_outcome
returns-clause-body g c is = returns-clause-known g c InvalidMessage [] (ap (split (heard_in (session_in c.args.core.now)) allows_handles) is ∙ in-body (is_standard (session_in c.args.core.now).profile))
  where
    in-body : (any : Bool) → split (heard_by request_of any_request any) allows_handles (plain {H = PlainHandle} in_body) ≡ (Err InvalidMessage, [])
    in-body true = refl
    in-body false = refl

pub returns-clause-header : goal.returns-clause-header
unfolding split split_after split_body body_outcome
returns-clause-header g c is = returns-clause-known g c PartialMessage [] (ap (split (heard_in (session_in c.args.core.now)) allows_handles) is)

pub returns-clause-end : goal.returns-clause-end
unfolding split split_after split_body body_outcome
returns-clause-end g c is = returns-clause-known g c Disconnected [] (ap (split (heard_in (session_in c.args.core.now)) allows_handles) is)

pub returns-clause-version : goal.returns-clause-version
unfolding split split_after split_body body_outcome
returns-clause-version g c is = returns-clause-known g c InvalidMessage [] (ap (split (heard_in (session_in c.args.core.now)) allows_handles) is)
