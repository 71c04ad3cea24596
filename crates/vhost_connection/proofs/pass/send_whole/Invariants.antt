use Rattle.std.proofs.Common.{length, ◌-◌, ◌+◌, ◌≤◌, take, map}
use Rattle.vhost_protocol.specs.Stream.{carrying}
use Rattle.vhost_link.specs.Law.{Moved}
use Rattle.vhost_connection.specs.Pass.{sends}
use Rattle.vhost_connection.proofs.AtOnce.{SoFar}
use Rattle.vhost_connection.proofs.pass.send_whole.Given as goal

abbrev pub invariant-loop-count : goal.invariant-loop-count
invariant-loop-count g l = (l.count ≤ length l.bytes) × (l.left ≤ l.budget)
    × Moved g.L.Link.event l.fn.link (sends (take l.count (carrying (map (λ h. h.now) l.handles) l.bytes)) (l.budget - l.left)) l.link
    × (g.L.Link.takes_all l.fn.link → SoFar g.L.Link.event g.L.Link.takes_all l.fn.link (carrying (map (λ h. h.now) l.handles) l.bytes) l.count l.link)

abbrev pub decreases-loop-count : goal.decreases-loop-count
decreases-loop-count g l = (length l.bytes - l.count) + l.left
