use Rattle.std.proofs.Common.{◌≡◌, ◌++◌, List, [], Option, Some, Ok, refl, sym, ap, subst, ◌∙◌}
use Rattle.std.specs.Prelude.{IfSome}
use Rattle.vhost_frontend_core.specs.Halves.{AsksHalfWithRoom}
use Rattle.vhost_frontend_core.specs.Kept.{IsKeptFor}
use Rattle.vhost_frontend_core.specs.declared.asked.Sent.{Sent}
use Rattle.vhost_frontend_core.specs.ValueHalves.{AsksCall, IsProper, awaited_after}
use Rattle.vhost_link.specs.Ends.{Ends}
use Rattle.vhost_link.specs.Mem.{event}
use Rattle.vhost_link.specs.declared.plain.PlainHandle.{PlainHandle}
use Rattle.vhost_protocol.specs.Stream.{Cell}
use Rattle.vhost_protocol.specs.FrontendCall.{FrontendCall}
use Rattle.vhost_connection.specs.Memory.{stream}
use Rattle.vhost_connection.specs.Talk.{State}
use Rattle.vhost_frontend_core.specs.Frontend.{endpoint_of, session_of, awaits}
use Rattle.vhost_frontend_core.specs.Values.{call_of}
use Rattle.vhost_frontend_core.proofs.Awaiting.{may-await-with-room}
use Rattle.vhost_c_frontend.specs.Awaiting.{awaited_of}
use Rattle.vhost_c_frontend.specs.Session.{sent, at_once}
use Rattle.vhost_c_frontend.specs.declared.session.Asked.{Asked}
use Rattle.vhost_c_common.specs.View.{bare}
use Rattle.vhost_c_common.proofs.Wants.{alike, lasts-then}
use Rattle.vhost_c_frontend.proofs.Asking.{Front, cells, came-before, asked-so, stayed, reason, left-sound, by-half, by-refusal, by-flags, behind}
use Rattle.vhost_c_frontend.proofs.Wants.{asks-call}
use Rattle.vhost_c_frontend.proofs.session.Session.ask_now.Goals as goal

-- of the result's field, where it is some request
half-of : (call : FrontendCall PlainHandle) (old new : Front) (o : Option Sent) (s : Sent) → o ≡ Some s → AsksCall call old (Ok o) new → AsksHalfWithRoom event call old (Ok s) new
half-of call old new o s is asked = by-half call old new s (subst {A = Option Sent} (λ x. AsksCall call old (Ok x) new) is asked)

-- nothing came for this end
empty-before : (e : State Ends PlainHandle) → e.ahead ≡ [] → e.link.pending ≡ [] → stream e ≡ []
empty-before e ahead pending = ap (λ xs. xs ++ e.link.pending) ahead ∙ pending

pub ask-requires : goal.ask-requires
ask-requires c broken = c.args.self.now.awaited ∙ ap (awaited_of (λ (a : Asked). a.sent.awaited)) c.requires.free

pub invariant_of-asked : goal.invariant_of-asked
invariant_of-asked c =
    let call = call_of c.args.call in let s = c.in-Ok-Some.sent in
    let half = half-of call c.args.self.now.frontend c.ask.new.frontend c.in-Ok-Some.field-0 s c.in-Ok-Some.field-0-is c.in-Ok-Some.ensures.asked in
    record {
      awaited = ∣ may-await-with-room call half ∣₁;
      kept = ∣ subst {A = Option Sent} (λ o. IfSome o (λ x. IsKeptFor call x.awaited x.kept)) c.in-Ok-Some.field-0-is c.in-Ok-Some.ensures.kept ∣₁;
    }

pub invariant_of-self : goal.invariant_of-self
invariant_of-self c =
    let u = asks-call (call_of c.args.call) c.args.self.now.frontend c.ask.new.frontend c.ask.result c.ask.ensures.asked (record { uncut = c.args.self.now.uncut; broken = c.args.self.now.broken }) in
    record { uncut = u.uncut; broken = u.broken; awaited = c.in-Ok-Some.ensures.awaited ∙ ap {A = Option Sent} (λ o. awaited_after (Ok o) (awaits c.args.self.now.frontend)) c.in-Ok-Some.field-0-is }

pub invariant_of-self-in-Ok-None : goal.invariant_of-self-in-Ok-None
invariant_of-self-in-Ok-None c =
    let u = asks-call (call_of c.args.call) c.args.self.now.frontend c.ask.new.frontend c.ask.result c.ask.ensures.asked (record { uncut = c.args.self.now.uncut; broken = c.args.self.now.broken }) in
    record { uncut = u.uncut; broken = u.broken; awaited = c.in-Ok-None.ensures.awaited ∙ ap {A = Option Sent} (λ o. awaited_after (Ok o) (awaits c.args.self.now.frontend)) c.in-Ok-None.field-0-is ∙ c.args.self.now.awaited }

pub invariant_of-self-in-Err : goal.invariant_of-self-in-Err
invariant_of-self-in-Err c =
    let u = alike (endpoint_of c.ask.new.frontend) (endpoint_of c.forget.new.frontend) (ap {A = State Ends PlainHandle} (λ e. e.link.script) c.forget.ensures.forgotten) (ap {A = State Ends PlainHandle} (λ e. e.broken) c.forget.ensures.forgotten)
    (asks-call (call_of c.args.call) c.args.self.now.frontend c.ask.new.frontend c.ask.result c.ask.ensures.asked (record { uncut = c.args.self.now.uncut; broken = c.args.self.now.broken })) in
    record { uncut = u.uncut; broken = u.broken; awaited = c.forget.ensures.rest.1 ∙ c.in-Err.ensures.awaited ∙ c.args.self.now.awaited }

pub returns-in-Ok-Some-clause-asked : goal.returns-in-Ok-Some-clause-asked
returns-in-Ok-Some-clause-asked c =
    let call = call_of c.args.call in let old = c.args.self.now.frontend in let new = c.ask.new.frontend in
    let w = asked-so c.stream_law.ensures.stream call old new c.in-Ok-Some.sent (half-of call old new c.in-Ok-Some.field-0 c.in-Ok-Some.sent c.in-Ok-Some.field-0-is c.in-Ok-Some.ensures.asked) in
    let proper : IsProper call = subst {A = Option Sent} (λ o. IfSome o (λ x. IsProper call)) c.in-Ok-Some.field-0-is c.in-Ok-Some.ensures.proper in
    sent w.w w.is (behind c.args.self.now.outgoing.link.pending (endpoint_of old).link.sent (cells w.w) (endpoint_of new).link.sent w.text) (record { kept = _; is = refl; same = refl; proper = proper; header = w.header; awaited = w.awaited; nothing_came = c.new-self.ensures; nothing_waits = came-before c.talks_law.ensures.talks call (endpoint_of old) (endpoint_of new) (session_of old) (session_of new) (awaits old) (awaits new) c.in-Ok-Some.sent (half-of call old new c.in-Ok-Some.field-0 c.in-Ok-Some.sent c.in-Ok-Some.field-0-is c.in-Ok-Some.ensures.asked) ∙ empty-before (endpoint_of old) c.requires.none_ahead c.requires.empty }) refl w.sound

pub returns-in-Ok-None-clause-asked : goal.returns-in-Ok-None-clause-asked
returns-in-Ok-None-clause-asked c =
    let f = by-flags (call_of c.args.call) c.args.self.now.frontend c.ask.new.frontend (subst {A = Option Sent} (λ o. AsksCall (call_of c.args.call) c.args.self.now.frontend (Ok o) c.ask.new.frontend) c.in-Ok-None.field-0-is c.in-Ok-None.ensures.asked) in
    at_once f.flags f.is f.session (ap {A = State Ends PlainHandle} (λ e. c.args.self.now.outgoing.link.pending ++ e.link.sent) f.same) refl refl refl (ap bare f.same)

pub returns-in-Err-clause-refused : goal.returns-in-Err-clause-refused
returns-in-Err-clause-refused c =
    let old = c.args.self.now.frontend in let new = c.ask.new.frontend in
    let s = stayed (call_of c.args.call) (endpoint_of old) (endpoint_of new) (session_of old) (session_of new) (awaits old) (awaits new) c.in-Err.error (by-refusal (call_of c.args.call) old new c.in-Err.error c.in-Err.ensures.asked) in
    record {
      queue = ap {A = List (Cell PlainHandle)} (λ xs. c.args.self.now.outgoing.link.pending ++ xs) (ap {A = State Ends PlainHandle} (λ e. e.link.sent) c.forget.ensures.forgotten ∙ sym c.requires.unsent);
      rest = record { memory = c.forget.ensures.rest.0 ∙ s; asked = refl; incoming = refl; answer = refl };
    }

pub returns-in-Err-clause-reason : goal.returns-in-Err-clause-reason
returns-in-Err-clause-reason c =
    let old = c.args.self.now.frontend in let new = c.ask.new.frontend in
    reason (call_of c.args.call) c.args.self.now c.stream_law.ensures.stream new (session_of new) (awaits old) (awaits new) c.in-Err.error (record { uncut = c.args.self.now.uncut; broken = c.args.self.now.broken }) c.in-Err.ensures.memory
    (by-refusal (call_of c.args.call) old new c.in-Err.error c.in-Err.ensures.asked)

pub returns-in-Err-clause-sound : goal.returns-in-Err-clause-sound
returns-in-Err-clause-sound c =
    let old = c.args.self.now.frontend in let new = c.ask.new.frontend in
    lasts-then _ _ _ c.in-Err.error (ap {A = State Ends PlainHandle} (λ e. e.broken) c.forget.ensures.forgotten)
    (left-sound (call_of c.args.call) (endpoint_of old) (endpoint_of new) (session_of old) (session_of new) (awaits old) (awaits new) c.in-Err.error (record { uncut = c.args.self.now.uncut; broken = c.args.self.now.broken })
    (by-refusal (call_of c.args.call) old new c.in-Err.error c.in-Err.ensures.asked))
