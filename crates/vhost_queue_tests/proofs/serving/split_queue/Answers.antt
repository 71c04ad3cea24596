-- The queue's rings are those that were found, in memory that is the same.
use Rattle.std.proofs.Common.{sym, subst, List}
use Rattle.vhost_queue.specs.Serving.{AreMapped}
use Rattle.vhost_queue_tests.proofs.serving.split_queue.Goals as goal

pub returns : goal.returns
returns c =
    let found = c.in_ok-rings.ensures
    in subst (λ rings. AreMapped c.map.new.memory.regions.items rings) (sym c.in_ok-queue.ensures.ok.rings)
    (subst (λ regions. AreMapped regions c.in_ok-rings.rings) (sym found.memory) (found.table, found.avail, found.used))
