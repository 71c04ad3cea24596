-- What a request becomes, by the row of its message.
use Rattle.std.proofs.Common.{◌∙◌, Ok, refl, ap, sym}
use Rattle.vhost_protocol.specs.Error.{InvalidMessage}
use Rattle.vhost_protocol.specs.Step.{failed_with}
use Rattle.vhost_backend_req_handler_core.specs.Beginning.{handles_in, message_in}
use Rattle.vhost_backend_req_handler_core.specs.Concluding.{wanting}
use Rattle.vhost_backend_req_handler_core.specs.Refusing.{refusal_in}
use Rattle.vhost_backend_req_handler_core.specs.Session.{session_of}
use Rattle.vhost_backend_req_handler_core.proofs.Fitted.{fitted}
use Rattle.vhost_backend_req_handler.specs.Serving.{refused_silently}
use Rattle.vhost_backend_req_handler.proofs.Finishing.{answers_by, begun_as, by_row}
use Rattle.vhost_backend_req_handler.proofs.service.Service.begin.Goals as goal

pub returns-else-not-fits-clause-begun : goal.returns-else-not-fits-clause-begun
returns-else-not-fits-clause-begun g c ready =
    let s = session_of c.args.self.now.session in
    let m = message_in c.args.message.now (handles_in c.args.handles.now) in
    let row = begun_as s m c.begin.ensures (c.in-Ok-Calls.is ∙ ap (λ x. Ok x) c.in-Ok-Calls.field-0-is) in (
      record {
        call = c.in-Ok-Calls.call;
        row = sym row;
        makes = (fitted _ _ s m c.in-Ok-Calls.call).made (sym c.fits.ensures ∙ c.if-not-fits.false);
        next = c.then.ensures;
        regions = rw c.then.ensures c.keep_table.ensures.kept;
      },
      refl,
      c.keep_table.ensures.session,
    )

pub returns-then-not-fits-clause-refused : goal.returns-then-not-fits-clause-refused
returns-then-not-fits-clause-refused g c ready settles =
    let s = session_of c.args.self.now.session in
    let m = message_in c.args.message.now (handles_in c.args.handles.now) in
    let row = begun_as s m c.begin.ensures (c.in-Ok-Calls.is ∙ ap (λ x. Ok x) c.in-Ok-Calls.field-0-is) in
    let none = (fitted _ _ s m c.in-Ok-Calls.call).unmade (sym c.fits.ensures ∙ c.if-not-fits.true) in
    by_row (sym none ∙ row) (answers_by c.args.unanswered.now (refused_silently s InvalidMessage) settles (refl, refl) (c.deny_silently.ensures ready))

pub returns-in-Ok-Refuses-clause-refused : goal.returns-in-Ok-Refuses-clause-refused
returns-in-Ok-Refuses-clause-refused g c ready settles =
    let s = session_of c.args.self.now.session in
    let m = message_in c.args.message.now (handles_in c.args.handles.now) in
    let row = begun_as s m c.begin.ensures (c.in-Ok-Refuses.is ∙ ap (λ x. Ok x) c.in-Ok-Refuses.field-0-is) in
    by_row row (answers_by c.args.unanswered.now (failed_with s (wanting c.args.message.now.need_reply) (refusal_in c.in-Ok-Refuses.refusal)) settles (refl, refl) (c.deny.ensures ready))

pub returns-in-Err-clause-refused : goal.returns-in-Err-clause-refused
returns-in-Err-clause-refused g c ready settles =
    let s = session_of c.args.self.now.session in
    let m = message_in c.args.message.now (handles_in c.args.handles.now) in
    by_row (begun_as s m c.begin.ensures c.in-Err.is) (answers_by c.args.unanswered.now (refused_silently s (refusal_in c.in-Err.refusal)) settles (refl, refl) (c.deny_silently-in-Err.ensures ready))
