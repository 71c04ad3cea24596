use Rattle.vhost_c_common.proofs.ByNumber.{by-none, by-some}
use Rattle.vhost_c_channel.proofs.Told.{putting}
use Rattle.vhost_c.proofs.Reading.{unless-done}
use Rattle.vhost_c.proofs.channel_arguments.covretin_channel_call_name.Goals as goal

pub returns-in-None-clause-does : goal.returns-in-None-clause-does
returns-in-None-clause-does c = by-none _ _ _ _ c.in-None.ensures.taken c.in-None.ensures.left c.number_of.ensures

pub returns-in-Some-clause-does : goal.returns-in-Some-clause-does
returns-in-Some-clause-does c = by-some _ _ _ _ c.in-Some.held.value c.in-Some.held.value c.name_to-outcome.result c.in-Some.ensures.taken c.put.ensures c.number_of-in-Some.ensures
    (putting c.in-Some.held.value _ c.deref.ensures _ _ c.name_to-outcome.result c.name_to-outcome.ensures)

pub returns-in-Some-clause-untouched : goal.returns-in-Some-clause-untouched
returns-in-Some-clause-untouched c = unless-done c.name_to-outcome.result c.number_of-in-Some.ensures c.name_to-outcome.ensures.refused
