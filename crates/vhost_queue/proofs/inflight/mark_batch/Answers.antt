use Rattle.std.proofs.Common.{◌<◌, ◌≤◌, inr, length, length-set, sym, ◌∙◌, arith}
use Rattle.vhost_queue.proofs.Marked.{marked-more, marked-refused}
use Rattle.vhost_queue.proofs.inflight.mark_batch.Goals as goal

pub returns-then-from-entries-clause-err : goal.returns-then-from-entries-clause-err
returns-then-from-entries-clause-err c =
    let beyond : length c.args.entries.now ≤ c.loop-step.head = omega arith in
    inr (sym c.loop-step.invariant.0 ∙ marked-refused c.args.entries.now c.args.count c.loop-step._step c.loop-step.head c.loop-step.marks.items c.loop-step-test.true beyond)

pub loop-step-preserved : goal.loop-step-preserved
loop-step-preserved c =
    let within : c.loop-step.head < length c.args.entries.now = omega arith in
    rw (c.from-in-loop-step.ensures, c.from-in-loop-step-2.ensures) (
      marked-more c.args.entries.now c.args.count c.loop-step._step c.loop-step.head c.loop-step.marks.items c.loop-step-test.true within ∙ c.loop-step.invariant.0,
      length-set c.loop-step.marks.items c.loop-step.head _ ∙ c.loop-step.invariant.1,
    )
