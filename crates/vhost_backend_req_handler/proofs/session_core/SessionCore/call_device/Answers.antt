-- The call of the request that is to be answered was made.
use Rattle.std.proofs.Common.{◌≡◌, ◌∙◌, ap, refl, subst}
use Rattle.vhost_connection.specs.Calls.{HandsOver}
use Rattle.vhost_connection.specs.Requests.{Reads}
use Rattle.vhost_backend_req_handler.specs.declared.halves.Pending.{Pending}
use Rattle.vhost_backend_req_handler.proofs.session_core.SessionCore.call_device.Goals as goal

pub returns-in-Some-clause-called : goal.returns-in-Some-clause-called
returns-in-Some-clause-called g c p m rs is reads over =
    let same : p ≡ c.in-Some.pending = cc (is, c.in-Some.is) in
    c.make-answer.ensures.called m rs
    (subst (λ (x : Pending g.row.L-Handle.Denot). Reads c.args.self.now.body.value x.request m) same reads)
    (subst (λ (x : Pending g.row.L-Handle.Denot). HandsOver x.handles m.handles) same over)

pub returns-in-Some-clause-some : goal.returns-in-Some-clause-some
returns-in-Some-clause-some g c p m is reads over makes =
    let same : p ≡ c.in-Some.pending = cc (is, c.in-Some.is) in
    c.make-answer.ensures.some m
    (subst (λ (x : Pending g.row.L-Handle.Denot). Reads c.args.self.now.body.value x.request m) same reads)
    (subst (λ (x : Pending g.row.L-Handle.Denot). HandsOver x.handles m.handles) same over) makes

pub returns-in-Some-clause-pending : goal.returns-in-Some-clause-pending
returns-in-Some-clause-pending g c p is =
    let same : c.in-Some.pending ≡ p = cc (is, c.in-Some.is) in (
      c.make-answer.new.pending,
      refl,
      c.make-answer.ensures.request ∙ ap (λ (x : Pending g.row.L-Handle.Denot). x.request) same,
      c.make-answer.ensures.then ∙ ap (λ (x : Pending g.row.L-Handle.Denot). x.then) same,
      c.make-answer.ensures.unanswered ∙ ap (λ (x : Pending g.row.L-Handle.Denot). x.unanswered) same,
    )
