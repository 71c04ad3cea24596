use Rattle.std.proofs.Common.{◌-◌, ◌≡◌, ◌≤◌, [], vec_capacity}
use Rattle.vhost_link.specs.Law.{Moved}
use Rattle.vhost_connection.specs.Ahead.{way, reads_ahead}
use Rattle.vhost_connection.specs.Pass.{receives}
use Rattle.vhost_connection.proofs.pass.recv_first.Given as goal

abbrev pub invariant-loop-count : goal.invariant-loop-count
invariant-loop-count g l = (l.left ≤ l.budget) × (l.room ≡ l.fn.room) × (l.list.items ≡ []) × (vec_capacity l.fn.list ≤ vec_capacity l.list)
    × Moved (reads_ahead g.L.Link.event) (way l.fn.source) (receives [] (l.budget - l.left)) (way l.source)

abbrev pub decreases-loop-count : goal.decreases-loop-count
decreases-loop-count g l = l.left
