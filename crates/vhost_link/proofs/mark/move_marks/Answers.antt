use Rattle.std.proofs.Common.{◌+◌, ◌-◌, ◌^◌, arith, subst}
use Rattle.vhost_link.specs.Marks.{moved, Within}
use Rattle.vhost_link.proofs.Marking.{Within-wider}
use Rattle.vhost_link.proofs.Flowing.{move-one}
use Rattle.vhost_link.proofs.mark.move_marks.Goals as goal

pub loop-mark-preserved : goal.loop-mark-preserved
loop-mark-preserved c =
    let end = c.args.from + (2 ^ 63 - c.args.to) in
    let w = subst (λ ms. Within c.args.from end ms) c.in-Some.ensures.items c.loop-mark.invariant.places in record {
      items = move-one (moved c.args.from c.args.to) c.loop-mark.out.items c.push_back_reserved.new.self.items _ c.in-Some.mark c.loop-mark.marks.items c.pop_front.new.self.items c.in-Some.ensures.items c.push_back_reserved.ensures.items c.loop-mark.invariant.items;
      room = omega (arith, c.push_back_reserved.ensures.len, c.push_back_reserved.ensures.capacity, c.in-Some.ensures.len, c.loop-mark.invariant.room);
      places = Within-wider _ c.args.from end end c.pop_front.new.self.items (omega (arith, w.0)) (omega arith) w.3;
    }
