use Rattle.std.proofs.Common.{Some, ℤ, w32, sym, ap, subst, ◌∙◌}
use Rattle.std.proofs.lemmas.Int.{to_z-of_z}
use Rattle.vhost_c_frontend.specs.Session.{Claiming}
use Rattle.vhost_c_common.proofs.ByNumber.{by-none, by-some}
use Rattle.vhost_c_frontend.specs.declared.session.Session.{Session}
use Rattle.vhost_c.proofs.held.covretin_claim.Goals as goal

pub returns-in-None : goal.returns-in-None
returns-in-None c = by-none _ _ _ _ c.in-None.ensures.taken c.in-None.ensures.left c.number_of.ensures

pub returns-in-Some : goal.returns-in-Some
returns-in-Some c = by-some _ _ _ _ c.deref_mut.result.now c.claim-outcome.new.self c.claim-outcome.result
    (c.in-Some.ensures.taken ∙ ap {A = Session} Some (sym c.deref_mut.ensures.value)) c.put.ensures c.number_of-in-Some.ensures
    (subst {A = ℤ} (λ n. Claiming n c.deref_mut.result.now c.claim-outcome.result c.claim-outcome.new.self) (to_z-of_z w32 c.args.fd c.ranges.fd) c.claim-outcome.ensures)
