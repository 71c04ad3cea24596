use Rattle.std.proofs.Common.{◌++◌, length, take, drop, arith}
use Rattle.vhost_link.proofs.Flowing.{got-count, got-marked, written}
use Rattle.std.proofs.lemmas.List.{length-take}
use Rattle.vhost_link.proofs.flow.Flow.get.Goals as goal

pub returns-clause-count : goal.returns-clause-count
returns-clause-count c =
    got-count c.self.inside.from c.end_of_piece-end.result c.len.result c.min-count.result (length c.args.room.now) c.self.inside.bytes.items c.self.inside.marks.items c.take_mark.new.marks.items c.args.self.now
    c.take_mark.ensures.marks
    c.end_of_piece-end.ensures
    (omega (arith, c.len.ensures))
    c.self.invariant.0
    c.self.invariant.1
    c.min-count.ensures
    c.self.view_is

pub returns-clause-got : goal.returns-clause-got
returns-clause-got c =
    got-marked c.self.inside.from c.end_of_piece-end.result c.len.result c.min-count.result (length c.args.room.now) c.self.inside.bytes.items (take c.min-count.result (c.copy_from_slice.new.self ++ drop c.min-count.result c.args.room.now)) c.self.inside.marks.items c.take_mark.new.marks.items c.take_mark.new.handles.items c.args.self.now
    c.take_mark.ensures.marks
    c.end_of_piece-end.ensures
    (omega (arith, c.len.ensures))
    c.self.invariant.0
    c.self.invariant.1
    c.min-count.ensures
    c.requires.room
    (written c.min-count.result c.self.inside.from c.copy_from_slice.new.self (drop c.min-count.result c.args.room.now) c.deref.result.now c.self.inside.bytes.items (omega (arith, c.copy_from_slice.ensures.len, length-take c.min-count.result c.args.room.now, c.min-count.ensures)) c.copy_from_slice.ensures.after c.deref.ensures.value)
    c.take_mark.ensures.handles
    c.self.view_is
