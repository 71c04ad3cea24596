use Rattle.std.proofs.Common.{◌≡◌, ℕ, [], Result, Ok, Err}
use Rattle.std.specs.Prelude.{⊤}
use Rattle.std.specs.Option.{ForSome}
use Rattle.vhost_message.specs.declared.cause.IoCause.TheVariants.{Raw}
use Rattle.vhost_message.specs.declared.errno.TheConstants.{ENOMEM}
use Rattle.vhost_protocol.specs.FrontendCall.{FrontendCall}
use Rattle.vhost_link.specs.declared.plain.PlainHandle.{PlainHandle}
use Rattle.vhost_frontend_core.specs.Frontend.{endpoint_of, awaits}
use Rattle.vhost_c_frontend.specs.Awaiting.{awaited_of}
use Rattle.vhost_c_frontend.specs.Session.{Becomes, Refused, sent, at_once, busy, fails}
use Rattle.vhost_c_common.specs.declared.refusal.Refusal.{Refusal}
use Rattle.vhost_c_frontend.specs.declared.session.Asked.{Asked}
use Rattle.vhost_c_frontend.specs.declared.session.Session.{Session}
use Rattle.vhost_c_frontend.proofs.session.Session.ask.Goals as goal

-- what became of a call is the same whatever is kept of a feature that was not active
noted : (call : FrontendCall PlainHandle) (s t : Session) (n : ℕ) (u : (endpoint_of t.frontend).link.script ≡ []) (b : ForSome (endpoint_of t.frontend).broken (λ c. c ≡ Raw ENOMEM)) (w : awaits t.frontend ≡ awaited_of (λ (a : Asked). a.sent.awaited) t.asked) (o : Result ⊤ Refusal)
    → Becomes call s o t → Becomes call s o (record t { inactive = n; uncut = u; broken = b; awaited = w })
noted call s t n u b v (Ok done) (sent w is queue keeps same sound) = sent w is queue (record {
  kept = keeps.kept;
  is = keeps.is;
  same = keeps.same;
  proper = keeps.proper;
  header = keeps.header;
  awaited = keeps.awaited;
  nothing_came = keeps.nothing_came;
  nothing_waits = keeps.nothing_waits;
}) same sound
noted call s t n u b v (Ok done) (at_once flags is memory queue asked incoming answer same) = at_once flags is memory queue asked incoming answer same
noted call s t n u b v (Err r) (why, stays) = (noted-why r why, record { queue = stays.queue; rest = record { memory = stays.rest.memory; asked = stays.rest.asked; incoming = stays.rest.incoming; answer = stays.rest.answer } })
  where
    noted-why : (r : Refusal) → Refused call s t r → Refused call s (record t { inactive = n; uncut = u; broken = b; awaited = v }) r
    noted-why _ (busy is k) = busy is (record { frontend = k.frontend; outgoing = k.outgoing; asked = k.asked; incoming = k.incoming; answer = k.answer; held = k.held })
    noted-why _ (fails why lasts) = fails why lasts

pub returns : goal.returns
returns c = (noted _ _ c.ask_in_turn-outcome.new.self _ _ _ _ c.ask_in_turn-outcome.result c.ask_in_turn-outcome.ensures.becomes, c.inactive_of-self.ensures, c.ask_in_turn-outcome.ensures.held)
