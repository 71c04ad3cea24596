use Rattle.std.proofs.Common.{◌≡◌, ◌≤◌, [], vec_capacity}
use Rattle.vhost_link.proofs.shared.as_link.SharedLinkLink.recv.Given as goal

abbrev pub invariant-loop : goal.invariant-loop
invariant-loop g l =
    (goal.iterator-loop g).can_next l.iterator'
    × (goal.iterator-loop g).is_finite l.iterator'
    × (l.self-inside.ends ≡ l.initial.self-inside.ends)
    × (l.room ≡ l.initial.room)
    × (l.handles.items ≡ [])
    × (vec_capacity l.initial.handles ≤ vec_capacity l.handles)
