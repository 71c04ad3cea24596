-- The peer knows, or a fault stopped it.
use Rattle.std.proofs.Common.{Err, refl, subst, sym, ap, ◌∙◌}
use Rattle.vhost_protocol.specs.Step.{Outcome}
use Rattle.vhost_connection.specs.State.{state}
use Rattle.vhost_connection.proofs.Serving.{replies-told, stops-told}
use Rattle.vhost_backend_req_handler_core.specs.Session.{session_of}
use Rattle.vhost_backend_req_handler_core.specs.Settling.{settled_by}
use Rattle.vhost_backend_req_handler.specs.Halves.{beside_then}
use Rattle.vhost_backend_req_handler.specs.Serving.{Finishes}
use Rattle.vhost_backend_req_handler.specs.Serving.Finishes.{finished, stopped}
use Rattle.vhost_backend_req_handler.proofs.service.Service.finish.Goals as goal

pub returns-in-Ok : goal.returns-in-Ok
returns-in-Ok g c ready =
    let b = beside_then c.args.next c.args.self.now in
    subst (λ (o : Outcome g.row.L-Handle.Denot). Finishes g.L.Link.event c.args.code o (state c.args.endpoint.now) (session_of c.args.self.now.session) c.by.result (state c.tell.new.endpoint) (session_of c.settle.new.session))
    (c.settle.ensures b ∙ ap (λ (o : Outcome g.row.L-Handle.Denot). settled_by c.args.unanswered.now o) (c.conclude-conclusion.ensures b))
    (finished (sym c.by.ensures) (replies-told g.L.Link.event _ _ _ (c.in-Ok.ensures ready)) refl)

pub returns-in-Err : goal.returns-in-Err
returns-in-Err g c ready =
    let b = beside_then c.args.next c.args.self.now in
    subst (λ (o : Outcome g.row.L-Handle.Denot). Finishes g.L.Link.event c.args.code o (state c.args.endpoint.now) (session_of c.args.self.now.session) (Err c.in-Err.error) (state c.tell.new.endpoint) (session_of c.unsent-self.result))
    (c.settle.ensures b ∙ ap (λ (o : Outcome g.row.L-Handle.Denot). settled_by c.args.unanswered.now o) (c.conclude-conclusion.ensures b))
    (stopped (stops-told g.L.Link.event _ _ _ c.in-Err.error (c.in-Err.ensures ready)) c.unsent-self.ensures)
