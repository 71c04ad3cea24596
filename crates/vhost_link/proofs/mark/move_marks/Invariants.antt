use Rattle.std.proofs.Common.{◌≡◌, ◌≤◌, ◌++◌, ◌+◌, ◌-◌, ◌^◌, map}
use Rattle.std.specs.VecDeque.{deque_len, deque_capacity}
use Rattle.vhost_link.specs.Marks.{moved, Within}
use Rattle.vhost_link.proofs.mark.move_marks.Given as goal

abbrev pub invariant-loop-mark : goal.invariant-loop-mark
invariant-loop-mark l = record {
  items : l.out.items ++ map (moved l.from l.to) l.marks.items ≡ l.fn.out.items ++ map (moved l.from l.to) l.fn.marks.items;
  room : deque_len l.out + deque_len l.marks ≤ deque_capacity l.out;
  places : Within l.from (l.from + (2 ^ 63 - l.to)) l.marks.items;
}

abbrev pub decreases-loop-mark : goal.decreases-loop-mark
decreases-loop-mark l = deque_len l.marks
