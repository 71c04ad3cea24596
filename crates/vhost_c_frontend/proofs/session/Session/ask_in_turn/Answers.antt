use Rattle.std.proofs.Common.{◌≡◌, Bool, true, false, Option, Some, None, refl, sym, ap, subst, ◌∙◌, ◌++◌}
use Rattle.std.specs.Prelude.{is_some}
use Rattle.vhost_frontend_core.specs.Values.{call_of}
use Rattle.vhost_frontend_core.specs.Frontend.{endpoint_of}
use Rattle.vhost_message.specs.declared.error.Error as declared
use Rattle.vhost_link.specs.Ends.{Ends}
use Rattle.vhost_link.specs.declared.plain.PlainHandle.{PlainHandle}
use Rattle.vhost_connection.specs.Talk.{State}
use Rattle.vhost_c_common.specs.Carrying.{emptied}
use Rattle.vhost_c_common.specs.declared.held.Held.{Held}
use Rattle.vhost_c_frontend.specs.Session.{Drops, Fails, no_queue, busy, fails}
use Rattle.vhost_c_common.proofs.Wants.{lasts-since, no-memory-lasts}
use Rattle.vhost_c_frontend.proofs.Asking.{asks-since, stays-since, some-first, fails-since, collected}
use Rattle.vhost_c_frontend.proofs.session.Session.ask_in_turn.Goals as goal

-- nothing is there where it is not something
none-of : {A : Type 0} (o : Option A) → is_some o ≡ false → o ≡ None
none-of None is = refl
none-of (Some a) is = absurd (cc is)

pub ask_now-requires-clause-free : goal.ask_now-requires-clause-free
ask_now-requires-clause-free c = none-of c.args.self.now.asked (sym c.is_some.ensures ∙ c.if-is_some.false)

pub returns-then-is_some-clause-becomes : goal.returns-then-is_some-clause-becomes
returns-then-is_some-clause-becomes c = (busy (sym c.is_some.ensures ∙ c.if-is_some.true) (record { frontend = refl; outgoing = refl; asked = refl; incoming = refl; answer = refl; held = refl }), record { queue = refl; rest = record { memory = refl; asked = refl; incoming = refl; answer = refl } })

pub returns-in-Err-clause-becomes : goal.returns-in-Err-clause-becomes
returns-in-Err-clause-becomes c = (
  fails (subst {A = declared.Error} (λ e. Fails (call_of c.args.call) c.args.self.now e) (sym c.in-Err.ensures.memory)
      (no_queue (some-first c.args.self.now.outgoing.link.pending (endpoint_of c.args.self.now.frontend).link.sent (λ none. cc (c.in-Err.ensures.succeeds none)))))
      (no-memory-lasts _ _ _ c.in-Err.ensures.memory (ap {A = State Ends PlainHandle} (λ e. e.broken) c.in-Err.ensures.refused.0)),
  record { queue = λ i. (c.in-Err.ensures.refused.1 i).pending ++ (c.in-Err.ensures.refused.0 i).link.sent; rest = record { memory = c.in-Err.ensures.rest.0; asked = refl; incoming = refl; answer = refl } },
)

pub returns-in-Ok-ask_now-clause-becomes : goal.returns-in-Ok-ask_now-clause-becomes
returns-in-Ok-ask_now-clause-becomes c =
    asks-since _ _ _ _ (collected c.args.self.now.outgoing.link.pending (endpoint_of c.args.self.now.frontend).link.sent _ _ c.in-Ok.ensures.collected.got (ap {A = State Ends PlainHandle} (λ e. e.link.sent) (c.forget_arrived.ensures.forgotten ∙ ap {A = State Ends PlainHandle} emptied c.in-Ok.ensures.collected.given)))
    (record { memory = c.forget_arrived.ensures.rest.0 ∙ c.in-Ok.ensures.rest.0; asked = refl; incoming = refl; answer = refl })
    (c.forget_arrived.ensures.forgotten ∙ ap {A = State Ends PlainHandle} emptied c.in-Ok.ensures.collected.given) c.in-Ok-ask_now.ensures.asked

pub returns-in-Err-ask_now-clause-becomes : goal.returns-in-Err-ask_now-clause-becomes
returns-in-Err-ask_now-clause-becomes c = (
  fails (fails-since (call_of c.args.call) c.args.self.now _ c.in-Err-ask_now.error
      (collected c.args.self.now.outgoing.link.pending (endpoint_of c.args.self.now.frontend).link.sent _ _ c.in-Ok.ensures.collected.got (ap {A = State Ends PlainHandle} (λ e. e.link.sent) (c.forget_arrived.ensures.forgotten ∙ ap {A = State Ends PlainHandle} emptied c.in-Ok.ensures.collected.given)))
      (c.forget_arrived.ensures.rest.0 ∙ c.in-Ok.ensures.rest.0)
      (ap {A = State Ends PlainHandle} (λ e. e.list) (c.forget_arrived.ensures.forgotten ∙ ap {A = State Ends PlainHandle} emptied c.in-Ok.ensures.collected.given))
      (ap {A = State Ends PlainHandle} (λ e. e.broken) (c.forget_arrived.ensures.forgotten ∙ ap {A = State Ends PlainHandle} emptied c.in-Ok.ensures.collected.given)) c.in-Err-ask_now.ensures.reason)
      (lasts-since _ _ _ c.in-Err-ask_now.error (ap {A = State Ends PlainHandle} (λ e. e.broken) (c.forget_arrived.ensures.forgotten ∙ ap {A = State Ends PlainHandle} emptied c.in-Ok.ensures.collected.given)) c.in-Err-ask_now.ensures.sound),
  stays-since _ _ _ (collected c.args.self.now.outgoing.link.pending (endpoint_of c.args.self.now.frontend).link.sent _ _ c.in-Ok.ensures.collected.got (ap {A = State Ends PlainHandle} (λ e. e.link.sent) (c.forget_arrived.ensures.forgotten ∙ ap {A = State Ends PlainHandle} emptied c.in-Ok.ensures.collected.given)))
      (record { memory = c.forget_arrived.ensures.rest.0 ∙ c.in-Ok.ensures.rest.0; asked = refl; incoming = refl; answer = refl }) c.in-Err-ask_now.ensures.refused,
)

-- nothing became of what is held
kept : (b : Bool) (h : Held) → Drops b b h h
kept true h = refl
kept false h = refl

pub returns-then-is_some-clause-held : goal.returns-then-is_some-clause-held
returns-then-is_some-clause-held c = kept (is_some c.args.self.now.asked) c.args.self.now.held

pub returns-in-Err-clause-held : goal.returns-in-Err-clause-held
returns-in-Err-clause-held c = kept (is_some c.args.self.now.asked) c.args.self.now.held

pub returns-in-Ok-ask_now-clause-held : goal.returns-in-Ok-ask_now-clause-held
returns-in-Ok-ask_now-clause-held c = c.ask_now.ensures.held

pub returns-in-Err-ask_now-clause-held : goal.returns-in-Err-ask_now-clause-held
returns-in-Err-ask_now-clause-held c = c.ask_now.ensures.held
