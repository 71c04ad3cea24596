use Rattle.std.proofs.Common.{Some, sym, ap, ◌∙◌}
use Rattle.vhost_c_common.proofs.ByNumber.{by-none, by-some}
use Rattle.vhost_c_channel.specs.Asking.{Asking}
use Rattle.vhost_c_channel.specs.declared.asking.Channel.{Channel}
use Rattle.vhost_c.proofs.channel_asks.asked.Goals as goal

pub returns-in-None : goal.returns-in-None
returns-in-None c = λ k is. by-none (Asking k) _ _ _ c.in-None.ensures.taken c.in-None.ensures.left c.number_of.ensures

pub returns-in-Some : goal.returns-in-Some
returns-in-Some c = λ k is. by-some (Asking k) _ _ _ c.deref_mut.result.now c.ask-outcome.new.self c.ask-outcome.result
    (c.in-Some.ensures.taken ∙ ap {A = Channel} Some (sym c.deref_mut.ensures.value)) c.put.ensures c.number_of-in-Some.ensures (c.ask-outcome.ensures k is)
