use Rattle.std.proofs.Common.{Some, Ok, sym, ap, ◌∙◌}
use Rattle.vhost_c_common.proofs.ByNumber.{by-none, by-some}
use Rattle.vhost_c_frontend.specs.declared.session.Session.{Session}
use Rattle.vhost_c.proofs.held.covretin_unclaimed.Goals as goal

pub returns-in-None-clause-does : goal.returns-in-None-clause-does
returns-in-None-clause-does c = by-none _ _ _ _ c.in-None.ensures.taken c.in-None.ensures.left c.number_of.ensures

pub returns-in-Some-clause-does : goal.returns-in-Some-clause-does
returns-in-Some-clause-does c = by-some _ _ _ _ c.deref_mut.result.now c.unclaimed.new.self (Ok tt)
    (c.in-Some.ensures.taken ∙ ap {A = Session} Some (sym c.deref_mut.ensures.value)) c.put.ensures c.number_of-in-Some.ensures (c.unclaimed.ensures.out, c.unclaimed.ensures.rest)
