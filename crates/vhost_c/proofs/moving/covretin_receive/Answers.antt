use Rattle.std.proofs.Common.{Some, sym, ap, ◌∙◌}
use Rattle.vhost_c_frontend.specs.declared.session.Session.{Session}
use Rattle.vhost_c_common.proofs.ByNumber.{by-none, by-some}
use Rattle.vhost_c.proofs.moving.covretin_receive.Goals as goal

pub returns-in-None-clause-received : goal.returns-in-None-clause-received
returns-in-None-clause-received c = by-none _ _ _ _ c.in-None.ensures.taken c.in-None.ensures.left c.number_of.ensures

pub returns-in-None-clause-held : goal.returns-in-None-clause-held
returns-in-None-clause-held c = by-none _ _ _ _ c.in-None.ensures.taken c.in-None.ensures.left c.number_of.ensures

pub returns-in-Some-clause-received : goal.returns-in-Some-clause-received
returns-in-Some-clause-received c = by-some _ _ _ _ c.deref_mut.result.now c.receive-outcome.new.self c.receive-outcome.result
    (c.in-Some.ensures.taken ∙ ap {A = Session} Some (sym c.deref_mut.ensures.value)) c.put.ensures c.number_of-in-Some.ensures (c.receive-outcome.ensures.received, c.receive-outcome.ensures.reason)

pub returns-in-Some-clause-held : goal.returns-in-Some-clause-held
returns-in-Some-clause-held c = by-some _ _ _ _ c.deref_mut.result.now c.receive-outcome.new.self c.receive-outcome.result
    (c.in-Some.ensures.taken ∙ ap {A = Session} Some (sym c.deref_mut.ensures.value)) c.put.ensures c.number_of-in-Some.ensures c.receive-outcome.ensures.held
