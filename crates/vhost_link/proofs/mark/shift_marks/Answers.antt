use Rattle.std.proofs.Common.{◌+◌, ◌^◌, arith}
use Rattle.vhost_link.specs.Marks.{moved}
use Rattle.vhost_link.proofs.Moving.{not-shifted, shift-bound, shift-one}
use Rattle.vhost_link.proofs.mark.shift_marks.Goals as goal

pub overflow_sub-index_mut : goal.overflow_sub-index_mut
overflow_sub-index_mut c =
    let old = c.args.marks.now.items in
    let m = c.index_mut.result.now in
    shift-bound c.loop-i.i c.args.from (2 ^ 63) old m (omega (arith, c.loop-i-test.true, c.len-i-end.ensures)) c.requires
    (not-shifted (moved c.args.from 0) c.loop-i.i old c.loop-i.marks.items m c.loop-i.invariant.items (omega (arith, c.loop-i-test.true, c.len-i-end.ensures)) c.index_mut.ensures.value)

pub loop-i-preserved : goal.loop-i-preserved
loop-i-preserved c =
    let old = c.args.marks.now.items in
    let m = c.index_mut.result.now in record {
      items = shift-one c.args.from c.loop-i.i (c.loop-i.i + 1) old c.loop-i.marks.items m (omega arith) c.loop-i.invariant.items (omega (arith, c.loop-i-test.true, c.len-i-end.ensures))
          (not-shifted (moved c.args.from 0) c.loop-i.i old c.loop-i.marks.items m c.loop-i.invariant.items (omega (arith, c.loop-i-test.true, c.len-i-end.ensures)) c.index_mut.ensures.value);
      count = c.loop-i.invariant.count;
    }
