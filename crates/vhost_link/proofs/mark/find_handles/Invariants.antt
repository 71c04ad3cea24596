use Rattle.std.proofs.Common.{◌≡◌, drop}
use Rattle.vhost_link.specs.Marks.{found}
use Rattle.vhost_link.proofs.mark.find_handles.Given as goal

abbrev pub invariant-loop-i : goal.invariant-loop-i
invariant-loop-i l = found l.at l.marks.items ≡ found l.at (drop l.i l.marks.items)
