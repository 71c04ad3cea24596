use Rattle.std.proofs.Common.{Err, refl, ap, ◌∙◌}
use Rattle.vhost_c_common.proofs.ByNumber.{by-none, by-some}
use Rattle.vhost_c_backend.specs.declared.served.Served.{Served}
use Rattle.vhost_c_backend.specs.Served.{end_number}
use Rattle.vhost_c_common.specs.declared.refusal.Refusal.TheVariants.{Protocol}
use Rattle.vhost_c.proofs.backend_moving.covretin_backend_end.Goals as goal

pub returns-in-None : goal.returns-in-None
returns-in-None c = by-none _ _ _ _ c.in-None.ensures.taken c.in-None.ensures.left c.number_of.ensures

pub returns-in-Some : goal.returns-in-Some
returns-in-Some c = by-some _ _ _ _ c.in-Some.held.value c.in-Some.held.value (Err (Protocol c.end-error.result)) c.in-Some.ensures.taken c.put.ensures c.number_of-in-Some.ensures
    (c.end-error.ensures ∙ ap {A = Served} end_number c.deref.ensures, refl)
