use Rattle.std.proofs.Common.{◌≡◌, ◌+◌, ◌≤◌, ◌++◌, length, map, take}
use Rattle.rtrb.specs.Ring.{sent, known_free, SameProducer}
use Rattle.vhost_link.specs.Pieces.{handle_piece}
use Rattle.vhost_link.proofs.shared.push.push_handles.Given as goal

abbrev pub invariant-loop-handle : goal.invariant-loop-handle
invariant-loop-handle l =
    SameProducer l.initial.output l.output
    × (sent l.output ≡ sent l.initial.output ++ map (λ h. handle_piece h.now) (take l.handle-index l.handles))
    × (known_free l.initial.output ≡ known_free l.output + l.handle-index)
    × (length l.handles ≤ known_free l.initial.output)
