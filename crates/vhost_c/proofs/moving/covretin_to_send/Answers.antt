use Rattle.std.proofs.Common.{Some, Ok, Err, sym, ap, ◌∙◌}
use Rattle.vhost_c_frontend.specs.declared.session.Session.{Session}
use Rattle.vhost_c_common.proofs.ByNumber.{by-none, by-some}
use Rattle.vhost_c.proofs.moving.covretin_to_send.Goals as goal

pub returns-in-None-clause-sent : goal.returns-in-None-clause-sent
returns-in-None-clause-sent c = by-none _ _ _ _ c.in-None.ensures.taken c.in-None.ensures.left c.number_of.ensures

pub returns-in-None-clause-held : goal.returns-in-None-clause-held
returns-in-None-clause-held c = by-none _ _ _ _ c.in-None.ensures.taken c.in-None.ensures.left c.number_of.ensures

pub returns-in-Ok-clause-sent : goal.returns-in-Ok-clause-sent
returns-in-Ok-clause-sent c = by-some _ _ _ _ c.deref_mut.result.now c.hand_out-outcome.new.self (Ok tt)
    (c.in-Some.ensures.taken ∙ ap {A = Session} Some (sym c.deref_mut.ensures.value)) c.put.ensures c.number_of-in-Ok.ensures (c.in-Ok.ensures.out, c.in-Ok.ensures.rest)

pub returns-in-Ok-clause-held : goal.returns-in-Ok-clause-held
returns-in-Ok-clause-held c = by-some _ _ _ _ c.deref_mut.result.now c.hand_out-outcome.new.self (Ok tt)
    (c.in-Some.ensures.taken ∙ ap {A = Session} Some (sym c.deref_mut.ensures.value)) c.put.ensures c.number_of-in-Ok.ensures c.hand_out-outcome.ensures.held

pub returns-in-Err-clause-sent : goal.returns-in-Err-clause-sent
returns-in-Err-clause-sent c = by-some _ _ _ _ c.deref_mut.result.now c.hand_out-outcome.new.self (Err c.in-Err.refusal)
    (c.in-Some.ensures.taken ∙ ap {A = Session} Some (sym c.deref_mut.ensures.value)) c.put.ensures c.number_of-in-Err.ensures (c.in-Err.ensures.reason, c.in-Err.ensures.refused, c.in-Err.ensures.rest)

pub returns-in-Err-clause-held : goal.returns-in-Err-clause-held
returns-in-Err-clause-held c = by-some _ _ _ _ c.deref_mut.result.now c.hand_out-outcome.new.self (Err c.in-Err.refusal)
    (c.in-Some.ensures.taken ∙ ap {A = Session} Some (sym c.deref_mut.ensures.value)) c.put.ensures c.number_of-in-Err.ensures c.hand_out-outcome.ensures.held
