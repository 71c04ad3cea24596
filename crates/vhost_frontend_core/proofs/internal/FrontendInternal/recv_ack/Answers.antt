-- An acknowledgement.
use Rattle.std.proofs.Common.{ℕ, ◌∙◌, ap, sym}
use Rattle.std.specs.Prelude.{◌==◌}
use Rattle.vhost_message.specs.declared.records.plain.VhostUserU64.{VhostUserU64}
use Rattle.vhost_frontend_core.specs.Taking.RecvsAck.{agreed, refused, crowded_ack, unacked}
use Rattle.vhost_frontend_core.proofs.Exits.{err_is}
use Rattle.vhost_connection.proofs.Handed.{hands-none, hands-some, nonzero}
use Rattle.vhost_frontend_core.proofs.internal.FrontendInternal.recv_ack.Goals as goal

pub returns-in_err-number-clause-received : goal.returns-in_err-number-clause-received
returns-in_err-number-clause-received g c = rw (err_is _ _ c.from_residual.ensures.1) (unacked c.in_err-number.ensures.received)

pub returns-then-is_some-clause-received : goal.returns-then-is_some-clause-received
returns-then-is_some-clause-received g c =
    let x = c.in_ok-number.ensures.received in
    crowded_ack x.0 x.1 (hands-some c.in_ok-number.handles x.0.handles x.4 (sym c.is_some.ensures ∙ c.if-is_some.true))

pub returns-then-number-ne0-clause-received : goal.returns-then-number-ne0-clause-received
returns-then-number-ne0-clause-received g c =
    let x = c.in_ok-number.ensures.received in
    refused x.0 x.1 (ap (λ (n : ℕ). n == 0) (sym (ap (λ (v : VhostUserU64). v.value) x.2)) ∙ nonzero c.in_ok-number.number.value c.if-number-ne0.true)
    (hands-none c.in_ok-number.handles x.0.handles x.4 (sym c.is_some.ensures ∙ c.if-is_some.false))

pub returns-clause-received : goal.returns-clause-received
returns-clause-received g c =
    let x = c.in_ok-number.ensures.received in
    agreed x.0 x.1 (sym (ap (λ (v : VhostUserU64). v.value) x.2) ∙ c.if-number-ne0.false)
    (hands-none c.in_ok-number.handles x.0.handles x.4 (sym c.is_some.ensures ∙ c.if-is_some.false))
