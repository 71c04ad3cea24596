use Rattle.std.proofs.Common.{◌≡◌}
use Rattle.vhost_promises.specs.Rings.{part_cells}
use Rattle.vhost_promises.proofs.rings.receive_all.Given as goal

abbrev pub invariant-loop-i : goal.invariant-loop-i
invariant-loop-i l = (l.link.input ≡ l.initial.link.input) × (l.link.received ≡ part_cells l.parts.items)
