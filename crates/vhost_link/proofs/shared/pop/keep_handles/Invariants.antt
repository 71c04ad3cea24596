use Rattle.std.proofs.Common.{◌≡◌, ◌+◌, ◌≤◌, ◌++◌, length, vec_capacity}
use Rattle.rtrb.specs.Ring.{received, known_items, SameConsumer}
use Rattle.vhost_message.specs.declared.limits.TheConstants.{MAX_ATTACHED_FD_ENTRIES}
use Rattle.vhost_link.specs.Pieces.{cells_of, waiting}
use Rattle.vhost_link.proofs.shared.pop.keep_handles.Given as goal

abbrev pub invariant-loop-i : goal.invariant-loop-i
invariant-loop-i l = record {
  ring : SameConsumer l.initial.input l.input;
  all : received l.input ++ known_items l.input ≡ received l.initial.input ++ known_items l.initial.input;
  cells : cells_of (received l.input) ≡ cells_of (received l.initial.input);
  kept : l.kept.items ≡ waiting (received l.input);
  few : length l.kept.items ≤ MAX_ATTACHED_FD_ENTRIES;
  places : vec_capacity l.kept ≡ vec_capacity l.initial.kept;
  left : length (known_items l.input) + l._i ≡ l._i-end;
}
