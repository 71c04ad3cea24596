-- All that are there, at most.
use Rattle.vhost_c_channel_joined.proofs.Pieces.{take-capped}
use Rattle.vhost_c_channel_joined.proofs.wire.handed.Goals as goal

pub returns : goal.returns
returns c = take-capped _ _ _ c.min.ensures
