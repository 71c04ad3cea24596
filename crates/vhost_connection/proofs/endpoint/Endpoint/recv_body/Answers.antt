use Rattle.std.proofs.Common.{◌⊎◌, inl, inr, arith, add-zero}
use Rattle.vhost_connection.proofs.Came.{came-as, cut-as}
use Rattle.vhost_connection.proofs.Errors.{passed-on}
use Rattle.vhost_connection.proofs.endpoint.Endpoint.recv_body.Goals as goal

both-as : {A B C D : Type 0} → (A → C) → (B → D) → A ⊎ B → C ⊎ D
both-as f g (inl a) = inl (f a)
both-as f g (inr b) = inr (g b)

pub returns-in_err-header-clause-received : goal.returns-in_err-header-clause-received
returns-in_err-header-clause-received g c small =
    let p = c.in_err-header.ensures.received small in
    rw (passed-on c.from_residual.result c.from_residual.ensures.1) (p.0, both-as (λ x. (came-as (add-zero _) x.0, x.1)) (λ f. cut-as (add-zero _) f) p.2)

pub returns-clause-received : goal.returns-clause-received
returns-clause-received g c small =
    let p = c.in_ok-header.ensures.received small in
    let m = came-as (add-zero _) p.2.0 in
    (p.0, (m, (omega (arith, m.within, p.2.1.0), p.2.1.1)))
