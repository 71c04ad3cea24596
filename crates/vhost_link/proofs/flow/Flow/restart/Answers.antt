use Rattle.std.proofs.Common.{◌-◌, ◌^◌, length, arith}
use Rattle.vhost_link.proofs.Marking.{Within-wider}
use Rattle.vhost_link.proofs.Flowing.{without-front, restart-marked, restart-within}
use Rattle.vhost_link.proofs.flow.Flow.restart.Goals as goal

pub shift_marks-requires : goal.shift_marks-requires
shift_marks-requires c = Within-wider c.self.inside.from c.self.inside.from (length c.self.inside.bytes.items) (2 ^ 63) c.self.inside.marks.items (omega arith) (omega (arith, c.self.inside.bytes.small, c.self.inside.bytes.ok)) c.self.invariant.1

pub invariant_of-self : goal.invariant_of-self
invariant_of-self c = (
  omega arith,
  restart-within c.self.inside.from c.self.inside.bytes.items c.truncate.new.self.items c.self.inside.marks.items c.shift_marks.new.marks.items c.self.invariant.0
      (without-front c.self.inside.from (c.len.result - c.self.inside.from) c.self.inside.bytes.items c.rotate_left.new.self.items c.truncate.new.self.items c.self.invariant.0 (omega (arith, c.len.ensures)) c.rotate_left.ensures.items c.truncate.ensures.items)
      c.shift_marks.ensures
      c.self.invariant.1,
)

pub returns : goal.returns
returns c =
    restart-marked c.self.inside.from c.self.inside.bytes.items c.truncate.new.self.items c.self.inside.marks.items c.shift_marks.new.marks.items c.args.self.now
    (without-front c.self.inside.from (c.len.result - c.self.inside.from) c.self.inside.bytes.items c.rotate_left.new.self.items c.truncate.new.self.items c.self.invariant.0 (omega (arith, c.len.ensures)) c.rotate_left.ensures.items c.truncate.ensures.items)
    c.shift_marks.ensures
    c.self.invariant.1
    c.self.view_is
