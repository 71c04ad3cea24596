use Rattle.std.proofs.Common.{◌<◌, length, length-set, ◌∙◌, arith}
use Rattle.vhost_queue.proofs.Freed.{freed-more}
use Rattle.vhost_queue.proofs.packed_inflight.mark_free.Goals as goal

pub loop-step-preserved : goal.loop-step-preserved
loop-step-preserved c =
    let within : c.loop-step.index < length c.args.entries.now = omega arith in
    rw (c.from-in-loop-step.ensures, c.from-in-loop-step-2.ensures) (
      freed-more c.args.entries.now (length c.args.entries.now) c.loop-step._step c.loop-step.index c.loop-step.marks.items c.loop-step-test.true within ∙ c.loop-step.invariant.0,
      length-set c.loop-step.marks.items c.loop-step.index _ ∙ c.loop-step.invariant.1,
    )
