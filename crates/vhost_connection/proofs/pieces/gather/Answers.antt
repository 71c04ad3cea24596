use Rattle.std.proofs.Common.{[], refl}
use Rattle.vhost_connection.proofs.Joining.{joined-more, put-more}
use Rattle.vhost_connection.proofs.pieces.gather.Goals as goal

pub loop-piece-preserved : goal.loop-piece-preserved
loop-piece-preserved c =
    let i = c.loop-piece.invariant in
    let more = joined-more c.args.pieces.now c.loop-piece.piece-index (record { ref_ptr = (0, 0); now = [] }) c.loop-piece-test.true in
    rw more (put-more c.loop-piece.count c.put_front-count.result _ _ c.args.out.now c.loop-piece.out c.put_front-count.new.out _ i.0 i.1 c.put_front-count.ensures.count refl c.put_front-count.ensures.bytes)
