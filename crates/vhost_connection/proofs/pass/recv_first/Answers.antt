use Rattle.std.proofs.Common.{arith, sym, ◌∙◌, refl, ◌≡◌, ◌-◌}
use Rattle.vhost_link.specs.Law.Moved.{still}
use Rattle.vhost_link.proofs.Moves.{Moved-as}
use Rattle.vhost_connection.specs.Ahead.{reads_ahead}
use Rattle.vhost_connection.proofs.Receiving.{front-came, first-again, gets-first}
use Rattle.vhost_connection.proofs.pass.recv_first.Goals as goal
use Rattle.vhost_connection.proofs.pass.recv_first.Goals.{then-not-is_retry-via-then-not-is_retry, then-not-is_retry-via-else-not-is_retry+then-left-eq0}

pub loop-count-init : goal.loop-count-init
loop-count-init g c =
    (omega arith, refl, c.requires.list, omega arith, Moved-as (let e : c.args.budget - c.args.budget ≡ 0 = omega arith in rw e refl) still)

pub returns-in-Ok-clause-got : goal.returns-in-Ok-clause-got
returns-in-Ok-clause-got g c =
    let i = c.loop-count.invariant in
    (omega arith, front-came (reads_ahead g.L.Link.event) _ _ _ _ _ _ _ _ _ i.1 i.4 (gets-first c.recv_some.auto.room c.in-Ok.ensures.got))

pub returns-then-not-is_retry-clause-got : goal.returns-then-not-is_retry-clause-got
returns-then-not-is_retry-clause-got g c =
    let i = c.loop-count.invariant in
    let e = c.in-Err.ensures.got in (
      omega arith,
      (
        refl,
        e.1 ∙ i.1,
        e.2,
        elim c.then-not-is_retry.branch [
          | then-not-is_retry-via-then-not-is_retry w ↦ λ h. absurd cc
          | then-not-is_retry-via-else-not-is_retry+then-left-eq0 w ↦ λ h. omega arith
        ],
        record { before = _; moved = i.4; last = e.0 },
      ),
    )

pub loop-count-preserved : goal.loop-count-preserved
loop-count-preserved g c =
    let i = c.loop-count.invariant in
    let e = c.in-Err.ensures.got in
    (omega arith, e.1 ∙ i.1, e.2, omega arith, first-again _ _ c.in-Err.cause i.4 e.0 (sym c.is_retry.ensures ∙ c.if-not-is_retry.false) (omega arith))
