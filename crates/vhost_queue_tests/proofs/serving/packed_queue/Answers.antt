-- The queue's rings are those that were found, in memory that is the same.
use Rattle.std.proofs.Common.{sym, subst, List}
use Rattle.vhost_queue.specs.Serving.{ArePackedMapped}
use Rattle.vhost_queue_tests.proofs.serving.packed_queue.Goals as goal

pub returns : goal.returns
returns c =
    let found = c.in_ok-rings.ensures
    in subst (λ rings. ArePackedMapped c.map.new.memory.regions.items rings) (sym c.in_ok-queue.ensures.ok.rings)
    (subst (λ regions. ArePackedMapped regions c.in_ok-rings.rings) (sym found.memory) (found.ring, found.driver, found.device))
