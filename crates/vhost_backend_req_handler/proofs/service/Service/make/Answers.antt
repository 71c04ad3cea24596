-- The device was called, and the peer knows; or the handles are not those of the call.
use Rattle.std.proofs.Common.{◌∙◌, [], ap, subst, sym}
use Rattle.vhost_connection.specs.Requests.{IsReady}
use Rattle.vhost_connection.specs.State.{state}
use Rattle.vhost_backend_req_handler_core.specs.Beginning.{handles_in, message_in}
use Rattle.vhost_backend_req_handler_core.specs.Concluding.{regions_for}
use Rattle.vhost_backend_req_handler_core.specs.Session.{session_of}
use Rattle.vhost_backend_req_handler.specs.Calling.{beside}
use Rattle.vhost_backend_req_handler.specs.Halves.{beside_then}
use Rattle.vhost_backend_req_handler.proofs.Finishing.{made, unmade}
use Rattle.vhost_backend_req_handler.proofs.service.Service.make.Goals as goal

pub returns-in-None : goal.returns-in-None
returns-in-None g c ready settles =
    let m = message_in c.args.message.now (handles_in c.args.handles.now) in
    unmade (session_of c.args.self.now.session) _ (state c.args.endpoint.now) _ _ m c.args.call.now c.args.unanswered.now (beside [] c.call_device.new.self.shmem) c.args.device.now _ _ _ (ap session_of (c.call_device.ensures.session ∙ c.keep_table.ensures.session)) c.call_device.ensures.endpoint settles (c.in-None.ensures.called (session_of c.args.self.now.session) m [])
    (c.refuse_silently.ensures (subst (λ x. IsReady x) (sym c.call_device.ensures.endpoint) ready))

pub returns-in-Some : goal.returns-in-Some
returns-in-Some g c ready settles =
    let m = message_in c.args.message.now (handles_in c.args.handles.now) in
    made (session_of c.args.self.now.session) _ (state c.args.endpoint.now) _ _ m c.args.call.now _ c.args.unanswered.now (beside_then c.then.result c.call_device.new.self) _ c.args.device.now _ _ _ (ap session_of (c.call_device.ensures.session ∙ c.keep_table.ensures.session)) c.call_device.ensures.endpoint c.then.ensures ((λ j. regions_for (c.then.ensures j) (c.call_device.ensures.regions j)) ∙ c.keep_table.ensures.kept) c.sizes_law.ensures settles
    (c.in-Some.ensures.called (session_of c.args.self.now.session) m (regions_for c.then.result c.call_device.new.self.regions))
    (c.finish.ensures (subst (λ x. IsReady x) (sym c.call_device.ensures.endpoint) ready))
