use Rattle.std.proofs.Common.{Ok, refl, ap}
use Rattle.vhost_c_queue_calls.proofs.Called.{no-queue, called}
use Rattle.vhost_c_queue_calls.proofs.walking.covretin_queue_table.Goals as goal

pub returns-in-None : goal.returns-in-None
returns-in-None c = no-queue _ _ _ _ c.in-None.ensures.taken c.in-None.ensures.left c.number_of.ensures

pub returns-in-Some : goal.returns-in-Some
returns-in-Some c =
    called _ _ _ _ c.in-Some.held.value c.in-Some.held.value c.in-Some.ensures.taken c.put.ensures
    (Ok c.table-outcome.result, c.told.ensures, ap Ok (rw (← c.deref.ensures) c.table-outcome.ensures), refl)
