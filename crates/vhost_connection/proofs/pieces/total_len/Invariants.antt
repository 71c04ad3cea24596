use Rattle.std.proofs.Common.{◌≡◌, ◌<◌, ◌^◌, length, take}
use Rattle.vhost_connection.specs.Pass.{joined}
use Rattle.vhost_connection.proofs.pieces.total_len.Given as goal

abbrev pub invariant-loop-piece : goal.invariant-loop-piece
invariant-loop-piece l = (l.total ≡ length (joined (take l.piece-index l.pieces))) × (l.total < 2 ^ 64)
