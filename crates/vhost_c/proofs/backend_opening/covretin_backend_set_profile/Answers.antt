use Rattle.std.proofs.Common.{Some, sym, ap, ◌∙◌, subst}
use Rattle.vhost_c_common.proofs.ByNumber.{by-none, by-some}
use Rattle.vhost_c_backend.specs.Served.{Choosing}
use Rattle.vhost_c_backend.specs.declared.served.Served.{Served}
use Rattle.vhost_c.proofs.backend_opening.covretin_backend_set_profile.Goals as goal

pub returns-in-None : goal.returns-in-None
returns-in-None c = by-none _ _ _ _ c.in-None.ensures.taken c.in-None.ensures.left c.number_of.ensures

pub returns-in-Some : goal.returns-in-Some
returns-in-Some c = by-some _ _ _ _ c.deref_mut.result.now c.choose-outcome.new.self c.choose-outcome.result
    (c.in-Some.ensures.taken ∙ ap {A = Served} Some (sym c.deref_mut.ensures.value)) c.put.ensures c.number_of-in-Some.ensures
    (subst (λ p. Choosing p c.deref_mut.result.now c.choose-outcome.result c.choose-outcome.new.self) c.profile_of.ensures c.choose-outcome.ensures)
