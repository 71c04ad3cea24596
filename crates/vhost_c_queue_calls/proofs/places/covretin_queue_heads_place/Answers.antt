use Rattle.std.proofs.Common.{refl}
use Rattle.vhost_c_queue_calls.proofs.Called.{no-queue, called}
use Rattle.vhost_c_queue_calls.proofs.places.covretin_queue_heads_place.Goals as goal

pub returns-in-None : goal.returns-in-None
returns-in-None c = no-queue _ _ _ _ c.in-None.ensures.taken c.in-None.ensures.left c.number_of.ensures

pub returns-in-Some : goal.returns-in-Some
returns-in-Some c =
    called _ _ _ _ c.in-Some.held.value c.in-Some.held.value c.in-Some.ensures.taken c.put.ensures
    (c.heads_place-outcome.result, c.told.ensures, rw (← c.deref.ensures) c.heads_place-outcome.ensures, refl)
