use Rattle.std.proofs.Common.{◌≡◌, ◌++◌, length, map, take, drop}
use Rattle.rtrb.specs.Ring.{received, known_items, SameConsumer}
use Rattle.vhost_link.specs.Pieces.{byte_piece}
use Rattle.vhost_link.proofs.shared.pop.take_bytes.Given as goal

abbrev pub invariant-loop-i : goal.invariant-loop-i
invariant-loop-i l = record {
  count : l.count ≡ l.i;
  ring : SameConsumer l.initial.input l.input;
  received : received l.input ≡ received l.initial.input ++ map byte_piece (take l.i l.room);
  known : known_items l.initial.input ≡ map byte_piece (take l.i l.room) ++ known_items l.input;
  rest : drop l.i l.room ≡ drop l.i l.initial.room;
  len : length l.room ≡ length l.initial.room;
}
