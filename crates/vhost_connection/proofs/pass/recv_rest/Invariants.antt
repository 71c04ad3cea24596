use Rattle.std.proofs.Common.{length, ◌-◌, ◌+◌, ◌≡◌, ◌≤◌, [], vec_capacity}
use Rattle.vhost_connection.specs.Ahead.{way, reads_ahead}
use Rattle.vhost_connection.proofs.Receiving.{HasRead}
use Rattle.vhost_connection.proofs.pass.recv_rest.Given as goal

abbrev pub invariant-loop-count : goal.invariant-loop-count
invariant-loop-count g l = HasRead (reads_ahead g.L.Link.event) (way l.fn.source) l.fn.room l.budget l.count l.surplus l.left l.room (way l.source)
    × (l.spare.items ≡ []) × (vec_capacity l.fn.spare ≤ vec_capacity l.spare)

abbrev pub decreases-loop-count : goal.decreases-loop-count
decreases-loop-count g l = (length l.room - l.count) + l.left
