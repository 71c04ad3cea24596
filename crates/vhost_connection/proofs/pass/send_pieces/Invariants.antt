use Rattle.std.proofs.Common.{◌≡◌, ◌≤◌, ◌-◌, take, map}
use Rattle.vhost_protocol.specs.Stream.{carrying, has_some}
use Rattle.vhost_link.specs.Law.{Moved}
use Rattle.vhost_connection.specs.Pass.{sends, joined}
use Rattle.vhost_connection.proofs.pass.send_pieces.Given as goal

-- the pieces so far went out
abbrev pub invariant-loop-piece : goal.invariant-loop-piece
invariant-loop-piece g l =
    let text = carrying (map (λ h. h.now) l.handles) (joined (take l.piece-index l.pieces)) in
    (l.left ≤ l.budget) × (l.moved ≡ has_some text) × Moved g.L.Link.event l.fn.link (sends text (l.budget - l.left)) l.link
