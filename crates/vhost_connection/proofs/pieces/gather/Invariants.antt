use Rattle.std.proofs.Common.{◌≡◌, ◌++◌, drop, length, min, take}
use Rattle.vhost_connection.specs.Pass.{joined}
use Rattle.vhost_connection.proofs.pieces.gather.Given as goal

abbrev pub invariant-loop-piece : goal.invariant-loop-piece
invariant-loop-piece l =
    let front = joined (take l.piece-index l.pieces) in
    (l.count ≡ min (length l.fn.out) (length front)) × (l.out ≡ take l.count front ++ drop l.count l.fn.out)
