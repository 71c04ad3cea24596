use Rattle.std.proofs.Common.{◌++◌, refl, sym, ap, ◌∙◌}
use Rattle.vhost_link.specs.Ends.{Ends}
use Rattle.vhost_link.specs.declared.plain.PlainHandle.{PlainHandle}
use Rattle.vhost_connection.specs.Talk.{State}
use Rattle.vhost_c_common.specs.Carrying.{emptied}
use Rattle.vhost_c_channel.specs.Asking.{busy, endpoint_of}
use Rattle.vhost_c_common.specs.View.{bare}
use Rattle.vhost_c_common.proofs.OnWay.{some-waits}
use Rattle.vhost_c_channel.proofs.Calls.{asking-since, collected, no-memory}
use Rattle.vhost_c_channel.proofs.asking.Channel.ask.Goals as goal

pub returns-then-is_some : goal.returns-then-is_some
returns-then-is_some c = λ k is. (busy (sym c.is_some.ensures ∙ c.if-is_some.true) refl, record { queue = refl; memory = refl; asked = refl; incoming = refl; held = refl; came = λ waits. refl })

pub returns-in-Ok : goal.returns-in-Ok
returns-in-Ok c = λ k is.
    let s = c.args.self.now in
    let end = c.empty.ensures ∙ ap {A = State Ends PlainHandle} emptied (c.endpoint_mut-in-Ok.ensures.value ∙ c.in-Ok.ensures.collected.given) ∙ ap {A = State Ends PlainHandle} bare c.endpoint_mut.ensures.value in
    asking-since k s _ c.ask_now.new.self (
    collected s.outgoing.link.pending (endpoint_of s).link.sent _ _
    (c.in-Ok.ensures.collected.got ∙ ap {A = State Ends PlainHandle} (λ e. s.outgoing.link.pending ++ e.link.sent) c.endpoint_mut.ensures.value)
    (ap {A = State Ends PlainHandle} (λ e. e.link.sent) end)
    ) refl refl refl refl end (sym c.is_some.ensures ∙ c.if-is_some.false) c.ask_now.result (c.ask_now.ensures k is)

pub returns-in-Err : goal.returns-in-Err
returns-in-Err c = λ k is.
    let same = c.in-Err.ensures.refused.0 ∙ c.endpoint_mut.ensures.value in (
      no-memory k c.args.self.now _ _ c.in-Err.ensures.memory (some-waits _ (λ none. cc (c.in-Err.ensures.succeeds none))) same,
      record { queue = λ i. (c.in-Err.ensures.refused.1 i).pending ++ (same i).link.sent; memory = refl; asked = refl; incoming = refl; held = refl; came = λ waits. absurd (cc (sym waits ∙ sym c.is_some.ensures ∙ c.if-is_some.false)) },
    )
