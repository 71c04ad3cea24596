use Rattle.std.proofs.Common.{Some, Ok, Err, refl, sym, ap, ◌∙◌}
use Rattle.vhost_c_common.proofs.ByNumber.{by-none, by-some}
use Rattle.vhost_c_channel.specs.declared.display.Display.{Display}
use Rattle.vhost_c.proofs.display_replies.covretin_display_take_number.Goals as goal

pub returns-in-None-clause-does : goal.returns-in-None-clause-does
returns-in-None-clause-does c = by-none _ _ _ _ c.in-None.ensures.taken c.in-None.ensures.left c.number_of.ensures

pub returns-in-Ok-clause-does : goal.returns-in-Ok-clause-does
returns-in-Ok-clause-does c = by-some _ _ _ _ c.deref_mut.result.now c.take_number-outcome.new.self (Ok tt)
    (c.in-Some.ensures.taken ∙ ap {A = Display} Some (sym c.deref_mut.ensures.value)) c.put.ensures c.number_of-in-Ok.ensures c.in-Ok.ensures

pub returns-in-Err-clause-does : goal.returns-in-Err-clause-does
returns-in-Err-clause-does c = by-some _ _ _ _ c.deref_mut.result.now c.take_number-outcome.new.self (Err c.in-Err.refusal)
    (c.in-Some.ensures.taken ∙ ap {A = Display} Some (sym c.deref_mut.ensures.value)) c.put.ensures c.number_of-in-Err.ensures (c.in-Err.ensures, refl)
