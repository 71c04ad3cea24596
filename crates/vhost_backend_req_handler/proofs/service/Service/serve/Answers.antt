-- What a request became was carried out.
use Rattle.std.proofs.Common.{◌∙◌, Ok, refl, ap, subst}
use Rattle.vhost_protocol.specs.Error.{Error}
use Rattle.vhost_protocol.specs.Step.{failed_with}
use Rattle.vhost_connection.specs.State.{state}
use Rattle.vhost_backend_req_handler_core.specs.Beginning.{handles_in, message_in}
use Rattle.vhost_backend_req_handler_core.specs.Concluding.{wanting}
use Rattle.vhost_backend_req_handler_core.specs.Refusing.{refusal_in}
use Rattle.vhost_backend_req_handler_core.specs.Session.{session_of}
use Rattle.vhost_backend_req_handler_core.specs.Settling.{settled_by}
use Rattle.vhost_backend_req_handler.specs.Serving.{Finishes}
use Rattle.vhost_backend_req_handler.proofs.Finishing.{answers_by, begun_as, by_row, refused}
use Rattle.vhost_backend_req_handler.proofs.service.Service.serve.Goals as goal

pub returns-in-Ok-Calls : goal.returns-in-Ok-Calls
returns-in-Ok-Calls g c ready =
    let hs = handles_in c.args.handles.now in
    let m = message_in c.args.message.now hs in
    by_row (begun_as (session_of c.args.self.now.session) m c.begin.ensures (c.in-Ok-Calls.is ∙ ap (λ x. Ok x) c.in-Ok-Calls.field-0-is)) (c.make.ensures ready (c.unanswered-unanswered.ensures hs))

pub returns-in-Ok-Refuses : goal.returns-in-Ok-Refuses
returns-in-Ok-Refuses g c ready =
    let s = session_of c.args.self.now.session in
    let hs = handles_in c.args.handles.now in
    let m = message_in c.args.message.now hs in
    let wants = wanting c.args.message.now.need_reply in
    by_row (begun_as s m c.begin.ensures (c.in-Ok-Refuses.is ∙ ap (λ x. Ok x) c.in-Ok-Refuses.field-0-is))
    (answers_by c.unanswered-unanswered.result (failed_with s wants (refusal_in c.in-Ok-Refuses.refusal)) (c.unanswered-unanswered.ensures hs) (refl, refl)
    (subst (λ (e : Error). Finishes g.L.Link.event c.args.message.now.code (settled_by c.unanswered-unanswered.result (failed_with s wants e)) (state c.args.endpoint.now) s c.refuse.result (state c.refuse.new.endpoint) (session_of c.refuse.new.self.session))
    c.error.ensures (c.refuse.ensures ready)))

pub returns-in-Err : goal.returns-in-Err
returns-in-Err g c ready =
    let hs = handles_in c.args.handles.now in
    let m = message_in c.args.message.now hs in
    by_row (begun_as (session_of c.args.self.now.session) m c.begin.ensures c.in-Err.is)
    (refused c.unanswered-unanswered.result c.error-in-Err.result c.in-Err.refusal c.error-in-Err.ensures (c.unanswered-unanswered.ensures hs) (c.refuse_silently.ensures ready))
