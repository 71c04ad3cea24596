use Rattle.std.proofs.Common.{◌≡◌, ◌+◌, ◌-◌, arith, map, refl}
use Rattle.vhost_link.specs.Law.Moved.{still}
use Rattle.vhost_link.proofs.Moves.{Moved-as}
use Rattle.vhost_connection.proofs.Sending.{then-piece, some-pieces, all-pieces}
use Rattle.vhost_connection.proofs.pass.send_pieces.Goals as goal

pub loop-piece-init : goal.loop-piece-init
loop-piece-init g c = (omega arith, refl, Moved-as (let e : c.args.budget - c.args.budget ≡ 0 = omega arith in rw e refl) still)

pub returns-in-Some : goal.returns-in-Some
returns-in-Some g c =
    let i = c.loop-piece.invariant in
    some-pieces g.L.Link.event c.args.link.now c.send_piece-sent.new.link (map (λ h. h.now) c.args.handles.now) c.args.pieces.now (c.loop-piece.piece-index + 1) _ _ _ c.in-Some.cause
    (rw c.in-Some.is at (then-piece g.L.Link.event c.args.link.now _ c.send_piece-sent.new.link (map (λ h. h.now) c.args.handles.now) c.args.pieces.now c.loop-piece.piece-index _ _ _ c.send_piece-sent.result
    c.loop-piece-test.true i.0 i.1 i.2 c.send_piece-sent.ensures))

pub loop-piece-preserved : goal.loop-piece-preserved
loop-piece-preserved g c =
    let i = c.loop-piece.invariant in
    let p = rw c.in_default.is at (then-piece g.L.Link.event c.args.link.now _ c.send_piece-sent.new.link (map (λ h. h.now) c.args.handles.now) c.args.pieces.now c.loop-piece.piece-index _ _ _ c.send_piece-sent.result
    c.loop-piece-test.true i.0 i.1 i.2 c.send_piece-sent.ensures) in
    (p.0, p.1.0, p.1.1)

pub returns : goal.returns
returns g c =
    let i = c.loop-piece.invariant in
    all-pieces g.L.Link.event c.args.link.now _ (map (λ h. h.now) c.args.handles.now) c.args.pieces.now c.loop-piece.piece-index _ _ _ (omega arith) i.0 i.1 i.2
