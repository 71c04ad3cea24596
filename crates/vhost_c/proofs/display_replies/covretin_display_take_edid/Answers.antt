use Rattle.std.proofs.Common.{Some, sym, ap, ◌∙◌}
use Rattle.vhost_c_common.proofs.ByNumber.{by-none, by-some}
use Rattle.vhost_c_channel.specs.declared.display.Display.{Display}
use Rattle.vhost_c.proofs.Reading.{unless-done, unless-taken}
use Rattle.vhost_c.proofs.display_replies.covretin_display_take_edid.Goals as goal

pub returns-in-None-clause-does : goal.returns-in-None-clause-does
returns-in-None-clause-does c = by-none _ _ _ _ c.in-None.ensures.taken c.in-None.ensures.left c.number_of.ensures

pub returns-in-Some-clause-does : goal.returns-in-Some-clause-does
returns-in-Some-clause-does c = by-some _ _ _ _ c.deref_mut.result.now c.take_edid-outcome.new.self c.take_edid-outcome.result
    (c.in-Some.ensures.taken ∙ ap {A = Display} Some (sym c.deref_mut.ensures.value)) c.put.ensures c.number_of-in-Some.ensures c.take_edid-outcome.ensures

pub returns-in-Some-clause-untouched : goal.returns-in-Some-clause-untouched
returns-in-Some-clause-untouched c = unless-done c.take_edid-outcome.result c.number_of-in-Some.ensures (unless-taken c.take_edid-outcome.ensures)
