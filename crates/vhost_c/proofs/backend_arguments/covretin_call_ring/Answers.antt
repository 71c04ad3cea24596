use Rattle.std.proofs.Common.{Ok, Err}
use Rattle.vhost_c_common.proofs.ByNumber.{by-none, by-some}
use Rattle.vhost_c_backend.specs.Arguments.{ring_arg}
use Rattle.vhost_c_backend.proofs.Told.{telling, refusing}
use Rattle.vhost_c.proofs.backend_arguments.covretin_call_ring.Goals as goal

pub returns-in-None-clause-does : goal.returns-in-None-clause-does
returns-in-None-clause-does c = by-none _ _ _ _ c.in-None.ensures.taken c.in-None.ensures.left c.number_of.ensures

pub returns-in-Ok-clause-does : goal.returns-in-Ok-clause-does
returns-in-Ok-clause-does c = by-some _ _ _ _ c.in-Some.held.value c.in-Some.held.value (Ok tt) c.in-Some.ensures.taken c.put.ensures c.number_of-in-Ok.ensures
    (telling (λ hs c. ring_arg c) c.in-Some.held.value _ c.deref.ensures _ c.in-Ok.ensures)

pub returns-in-Err-clause-does : goal.returns-in-Err-clause-does
returns-in-Err-clause-does c = by-some _ _ _ _ c.in-Some.held.value c.in-Some.held.value (Err c.in-Err.refusal) c.in-Some.ensures.taken c.put.ensures c.number_of-in-Err.ensures
    (refusing (λ hs c. ring_arg c) c.in-Some.held.value _ c.deref.ensures c.in-Err.refusal c.in-Err.ensures)
