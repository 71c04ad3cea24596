use Rattle.std.proofs.Common.{◌≡◌, ◌-◌, inl, arith, map, refl, sym, ◌∙◌}
use Rattle.vhost_link.specs.Law.Moved.{still}
use Rattle.vhost_link.proofs.Moves.{Moved-as}
use Rattle.vhost_link.proofs.Cells.{length-carrying}
use Rattle.vhost_connection.proofs.Sending.{one-piece, one-retry, whole, front}
use Rattle.vhost_connection.proofs.AtOnce.{goes, waits, gone, kept}
use Rattle.vhost_connection.proofs.pass.send_whole.Goals as goal
use Rattle.vhost_connection.proofs.pass.send_whole.Goals.{then-not-is_retry-via-then-not-is_retry, then-not-is_retry-via-else-not-is_retry+then-left-eq0}

pub loop-count-init : goal.loop-count-init
loop-count-init g c = (omega arith, omega arith, Moved-as (let e : c.args.budget - c.args.budget ≡ 0 = omega arith in rw e refl) still, λ w. inl (refl, w))

pub overflow_add-count : goal.overflow_add-count
overflow_add-count g c = omega (arith, c.in-Ok.ensures.part, length-carrying (map (λ h. h.now) c.args.handles.now) c.args.bytes.now)

pub loop-count-preserved-in-Ok : goal.loop-count-preserved-in-Ok
loop-count-preserved-in-Ok g c =
    let i = c.loop-count.invariant in
    let len = length-carrying (map (λ h. h.now) c.args.handles.now) c.args.bytes.now in
    let sent = c.in-Ok.ensures.part.2 in (
      omega (arith, c.in-Ok.ensures.part, len),
      omega arith,
      one-piece _ _ _ _ i.2 sent,
      λ w. goes g.L.Link.takes_all _ _ _ _ (omega (arith, len)) i.2 sent (i.3 w) (λ z v. c.in-Ok.ensures.whole z v ∙ sym len),
    )

pub returns-then-not-is_retry-clause-sent : goal.returns-then-not-is_retry-clause-sent
returns-then-not-is_retry-clause-sent g c =
    let len = length-carrying (map (λ h. h.now) c.args.handles.now) c.args.bytes.now in
    front _ _ _ _ _ c.in-Err.cause (omega arith) (omega (arith, len)) refl (elim c.then-not-is_retry.branch [
      | then-not-is_retry-via-then-not-is_retry w ↦ λ h. absurd cc
      | then-not-is_retry-via-else-not-is_retry+then-left-eq0 w ↦ λ h. omega arith
    ]) c.loop-count.invariant.2 c.in-Err.ensures.part

pub returns-then-not-is_retry-clause-once : goal.returns-then-not-is_retry-clause-once
returns-then-not-is_retry-clause-once g c w some =
    let len = length-carrying (map (λ h. h.now) c.args.handles.now) c.args.bytes.now in
    kept g.L.Link.takes_all _ _ _ _ (omega (arith, len)) c.loop-count.invariant.2 c.in-Err.ensures.part (c.loop-count.invariant.3 w)

pub loop-count-preserved : goal.loop-count-preserved
loop-count-preserved g c =
    let i = c.loop-count.invariant in
    let len = length-carrying (map (λ h. h.now) c.args.handles.now) c.args.bytes.now in (
      omega arith,
      omega arith,
      one-retry _ _ _ _ i.2 c.in-Err.ensures.part (sym c.is_retry.ensures ∙ c.if-not-is_retry.false) (omega arith),
      λ w. waits g.L.Link.takes_all _ _ (omega (arith, len)) (i.3 w) c.in-Err.ensures.whole,
    )

pub returns-clause-sent : goal.returns-clause-sent
returns-clause-sent g c =
    whole _ _ _ _ _ (omega arith) (omega (arith, length-carrying (map (λ h. h.now) c.args.handles.now) c.args.bytes.now)) refl c.loop-count.invariant.2

pub returns-clause-once : goal.returns-clause-once
returns-clause-once g c w some =
    let len = length-carrying (map (λ h. h.now) c.args.handles.now) c.args.bytes.now in
    gone g.L.Link.takes_all _ _ (omega (arith, some, len)) (omega (arith, len)) (c.loop-count.invariant.3 w)
