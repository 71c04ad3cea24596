use Rattle.std.proofs.Common.{sym, ◌∙◌}
use Rattle.vhost_queue.proofs.Covered.{covered-first, covered-next}
use Rattle.vhost_queue.specs.Chain.{following}
use Rattle.vhost_queue.proofs.whole.follow_descriptor.Goals as goal

pub loop-descriptor-init : goal.loop-descriptor-init
loop-descriptor-init c =
    let step = c.in_ok-segment.ensures in record {
      handed = covered-first _ _ _ c.requires.none c.requires.bytes _ c.requires.next c.in_ok-segment.segment (following c.args.chain.now) (following c.step.new.self) step.goes_on step.part _ c.in_ok-keep.ensures.ok;
      memory = step.memory;
    }

pub loop-descriptor-preserved : goal.loop-descriptor-preserved
loop-descriptor-preserved c =
    let was = c.loop-descriptor.invariant in let step = c.in_ok-segment-2.ensures in record {
      handed = covered-next _ _ _ _ (sym c.has_rest.ensures ∙ c.loop-descriptor-test.true) was.handed c.requires.bytes _ was.memory c.in_ok-segment-2.segment (following c.loop-descriptor.chain) (following c.step-in-loop-descriptor.new.self) step.goes_on _ step.part _ c.in_ok-keep-2.ensures.ok;
      memory = step.memory ∙ was.memory;
    }
