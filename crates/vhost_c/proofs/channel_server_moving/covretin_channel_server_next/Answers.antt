use Rattle.std.proofs.Common.{Some, Ok, Err, sym, ap, ◌∙◌}
use Rattle.vhost_c_common.proofs.ByNumber.{by-none, by-some}
use Rattle.vhost_c_channel.specs.declared.serving.ChannelServer.{ChannelServer}
use Rattle.vhost_c.proofs.channel_server_moving.covretin_channel_server_next.Goals as goal

pub returns-in-None-clause-does : goal.returns-in-None-clause-does
returns-in-None-clause-does c = by-none _ _ _ _ c.in-None.ensures.taken c.in-None.ensures.left c.number_of.ensures

pub returns-in-Ok-clause-does : goal.returns-in-Ok-clause-does
returns-in-Ok-clause-does c = by-some _ _ _ _ c.deref_mut.result.now c.next-outcome.new.self (Ok tt)
    (c.in-Some.ensures.taken ∙ ap {A = ChannelServer} Some (sym c.deref_mut.ensures.value)) c.put.ensures c.number_of-in-Ok.ensures c.in-Ok.ensures

pub returns-in-Err-clause-does : goal.returns-in-Err-clause-does
returns-in-Err-clause-does c = by-some _ _ _ _ c.deref_mut.result.now c.next-outcome.new.self (Err c.in-Err.refusal)
    (c.in-Some.ensures.taken ∙ ap {A = ChannelServer} Some (sym c.deref_mut.ensures.value)) c.put.ensures c.number_of-in-Err.ensures c.in-Err.ensures
