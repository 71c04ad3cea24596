-- The number that answers a request.
use Rattle.std.proofs.Common.{ℕ, sym, ap, ◌∙◌}
use Rattle.std.specs.Prelude.{◌==◌}
use Rattle.vhost_message.specs.declared.records.plain.VhostUserU64.{VhostUserU64}
use Rattle.vhost_message.specs.MsgHeader.{fields_of}
use Rattle.vhost_connection.specs.State.{state}
use Rattle.vhost_connection.proofs.Handed.{hands-none, hands-some, nonzero}
use Rattle.vhost_backend_req.proofs.Answered.{number-zero, number-other, number-crowded, number-missing}
use Rattle.vhost_backend_req.proofs.internal.BackendInternal.recv_number.Goals as goal

pub returns-then-is_some-clause-received : goal.returns-then-is_some-clause-received
returns-then-is_some-clause-received g c =
    let x = c.in-Ok.ensures in
    number-crowded g.L.Link.event (fields_of c.args.request.now) (state c.args.self.now.endpoint) _ x.0 x.1 (hands-some c.in-Ok.handles x.0.handles x.7 (sym c.is_some.ensures ∙ c.if-is_some.true))

pub returns-then-number-ne0-clause-received : goal.returns-then-number-ne0-clause-received
returns-then-number-ne0-clause-received g c =
    let x = c.in-Ok.ensures in
    number-other g.L.Link.event (fields_of c.args.request.now) (state c.args.self.now.endpoint) _ x.0 x.1
    (ap (λ (n : ℕ). n == 0) (sym (ap (λ (v : VhostUserU64). v.value) x.3)) ∙ nonzero c.in-Ok.number.value c.if-number-ne0.true)
    (hands-none c.in-Ok.handles x.0.handles x.7 (sym c.is_some.ensures ∙ c.if-is_some.false))

pub returns-else-number-ne0-clause-received : goal.returns-else-number-ne0-clause-received
returns-else-number-ne0-clause-received g c =
    let x = c.in-Ok.ensures in
    number-zero g.L.Link.event (fields_of c.args.request.now) (state c.args.self.now.endpoint) _ x.0 x.1 (sym (ap (λ (v : VhostUserU64). v.value) x.3) ∙ c.if-number-ne0.false)
    (hands-none c.in-Ok.handles x.0.handles x.7 (sym c.is_some.ensures ∙ c.if-is_some.false))

pub returns-in-Err-clause-received : goal.returns-in-Err-clause-received
returns-in-Err-clause-received g c = number-missing g.L.Link.event (fields_of c.args.request.now) (state c.args.self.now.endpoint) _ c.in-Err.ensures
