use Rattle.std.proofs.Common.{◌≡◌, ◌++◌, map, take, drop}
use Rattle.std.specs.VecDeque.{deque_len}
use Rattle.vhost_link.specs.Marks.{moved}
use Rattle.vhost_link.proofs.mark.shift_marks.Given as goal

abbrev pub invariant-loop-i : goal.invariant-loop-i
invariant-loop-i l = record {
  items : l.marks.items ≡ map (moved l.from 0) (take l.i l.fn.marks.items) ++ drop l.i l.fn.marks.items;
  count : deque_len l.marks ≡ deque_len l.fn.marks;
}
