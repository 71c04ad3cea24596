use Rattle.std.proofs.Common.{◌∙◌}
use Rattle.vhost_queue.proofs.Followed.{followed-on, remaining-on}
use Rattle.vhost_queue.proofs.Stepped.{stepped-keeps}
use Rattle.vhost_queue.specs.Queue.{state}
use Rattle.vhost_queue.proofs.serving.follow.Goals as goal

pub loop-place-preserved : goal.loop-place-preserved
loop-place-preserved g c =
    let was = c.loop-place.invariant in let step = c.in_ok-segment.ensures in record {
      followed = followed-on was.followed _ was.memory c.in_ok-segment.segment (state c.step.new.self).chain step.goes_on _ c.in_ok-keep.ensures.ok;
      memory = step.memory ∙ was.memory;
      kept = (let same = stepped-keeps _ (state c.loop-place.queue) _ _ (state c.step.new.self) step.ok in (same.0 ∙ was.kept.0, same.1 ∙ was.kept.1));
      rings = (step.rings.0 ∙ was.rings.0, step.rings.1 ∙ was.rings.1, step.rings.2 ∙ was.rings.2);
    }

pub loop-place-smaller : goal.loop-place-smaller
loop-place-smaller g c = remaining-on _ (state c.loop-place.queue).chain c.in_ok-segment.segment (state c.step.new.self).chain c.in_ok-segment.ensures.goes_on
