use Rattle.std.proofs.Common.{Ok, Err, refl}
use Rattle.vhost_c_common.proofs.ByNumber.{by-none, by-some}
use Rattle.vhost_c_backend.specs.Arguments.{PutsOther}
use Rattle.vhost_c_backend.proofs.Told.{putting, lacking}
use Rattle.vhost_c.proofs.backend_arguments.covretin_call_other.Goals as goal

pub returns-in-None-clause-does : goal.returns-in-None-clause-does
returns-in-None-clause-does c = by-none _ _ _ _ c.in-None.ensures.taken c.in-None.ensures.left c.number_of.ensures

pub returns-in-Ok-clause-does : goal.returns-in-Ok-clause-does
returns-in-Ok-clause-does c = by-some _ _ _ _ c.in-Some.held.value c.in-Some.held.value (Ok tt) c.in-Some.ensures.taken c.put.ensures c.number_of-in-Ok.ensures
    (putting (λ hs c. PutsOther c) c.in-Some.held.value _ c.deref.ensures _ _ _ c.in-Ok.ensures)

pub returns-in-Err-clause-does : goal.returns-in-Err-clause-does
returns-in-Err-clause-does c = by-some _ _ _ _ c.in-Some.held.value c.in-Some.held.value (Err c.in-Err.refusal) c.in-Some.ensures.taken c.put.ensures c.number_of-in-Err.ensures
    (lacking (λ hs c. PutsOther c) c.in-Some.held.value _ c.deref.ensures _ _ c.in-Err.refusal c.in-Err.ensures)

pub returns-in-Err-clause-untouched : goal.returns-in-Err-clause-untouched
returns-in-Err-clause-untouched c = λ not. (refl, c.in-Err.ensures.refused, refl)
