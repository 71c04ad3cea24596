use Rattle.std.proofs.Common.{arith, [], ap, ◌∙◌, ◌+◌, length}
use Rattle.std.proofs.lemmas.List.{take_all}
use Rattle.vhost_connection.specs.Pass.{joined}
use Rattle.vhost_connection.proofs.Joining.{joined-length, joined-within}
use Rattle.vhost_connection.proofs.pieces.total_len.Goals as goal

pub returns-in-None : goal.returns-in-None
returns-in-None c =
    let len = joined-length c.args.pieces.now c.loop-piece.piece-index (record { ref_ptr = (0, 0); now = [] }) c.loop-piece-test.true in
    λ lt. c.in-None.ensures (omega (arith, len, lt, c.loop-piece.invariant, joined-within c.args.pieces.now (c.loop-piece.piece-index + 1)))

pub loop-piece-preserved : goal.loop-piece-preserved
loop-piece-preserved c =
    let len = joined-length c.args.pieces.now c.loop-piece.piece-index (record { ref_ptr = (0, 0); now = [] }) c.loop-piece-test.true in
    (omega (arith, len, c.in-Some.ensures, c.loop-piece.invariant), omega (arith, c.in-Some.ensures))

pub returns : goal.returns
returns c =
    let all = ap (λ xs. length (joined xs)) (take_all c.loop-piece.piece-index c.args.pieces.now c.loop-piece-test.false) in
    (omega (arith, all, c.loop-piece.invariant), c.loop-piece.invariant.0 ∙ all)
