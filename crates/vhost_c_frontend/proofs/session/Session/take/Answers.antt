use Rattle.std.proofs.Common.{◌≡◌, ℕ, ◌<◌, ◌≤◌, Bool, arith, [], Option, refl, sym, ap, subst, ◌∙◌}
use Rattle.vhost_message.specs.Header.{header_of}
use Rattle.vhost_message.specs.MsgHeader.{fields_of}
use Rattle.vhost_protocol.specs.FrontendCall.{Frontend}
use Rattle.vhost_link.specs.Ends.{Ends}
use Rattle.vhost_link.specs.declared.plain.PlainHandle.{PlainHandle}
use Rattle.vhost_frontend_core.specs.Frontend.{endpoint_of, session_of, awaits}
use Rattle.vhost_frontend_core.specs.Values.{call_of, answer_of}
use Rattle.vhost_frontend_core.specs.ValueHalves.{TakesWell, TakesResult}
use Rattle.vhost_frontend_core.specs.declared.internal.FrontendInternal.{FrontendInternal}
use Rattle.vhost_frontend_core.specs.declared.values.answer.FrontendAnswer.{FrontendAnswer}
use Rattle.vhost_protocol.specs.declared.asked.Awaited.{Awaited}
use Rattle.vhost_c_frontend.specs.Awaiting.{awaited_of}
use Rattle.vhost_protocol.specs.declared.profile.Profile.{Profile}
use Rattle.vhost_c_frontend.specs.Incoming.{is_sized}
use Rattle.vhost_c_common.specs.Carrying.{emptied}
use Rattle.vhost_c_frontend.specs.Session.{TakesAt, is_sized_of, kept, failed, other_size, nothing_asked, not_yet}
use Rattle.vhost_c_common.specs.declared.incoming.Incoming.{Incoming}
use Rattle.vhost_c_frontend.specs.declared.session.Asked.{Asked}
use Rattle.std.specs.Option.{ForSome}
use Rattle.vhost_message.specs.declared.cause.IoCause.TheVariants.{Raw}
use Rattle.vhost_message.specs.declared.errno.TheConstants.{ENOMEM}
use Rattle.vhost_link.specs.Mem.{StreamLaw}
use Rattle.vhost_c_frontend.specs.declared.session.Session.{Session}
use Rattle.vhost_c_frontend.proofs.Answerable.{awaited-set, may-await, is-kept}
use Rattle.vhost_c_frontend.proofs.Names.{names}
use Rattle.vhost_c_common.specs.View.{End, IsUncut}
use Rattle.vhost_c_frontend.proofs.Wants.{takes, uncut-prop, broken-prop}
use Rattle.vhost_c_frontend.proofs.session.Session.take.Goals as goal

abbrev Front : Type 0
Front = FrontendInternal Ends PlainHandle

-- what is awaited of a call that is asked
abbrev of-asked : Option Asked → Awaited
of-asked = awaited_of (λ (a : Asked). a.sent.awaited)

some_missing : (m n : ℕ) → m ≡ n → 0 < m → 0 < n
some_missing m n is some = omega arith

none_missing : (m n : ℕ) → m ≡ n → m ≤ 0 → n ≡ 0
none_missing m n is none = omega arith

pub returns-then-missing-gt0-clause-taken : goal.returns-then-missing-gt0-clause-taken
returns-then-missing-gt0-clause-taken c = not_yet (some_missing _ _ c.missing.ensures.missing c.if-missing-gt0.true) refl

-- the promise of taking, of a call that is kept
taken-at : (asked : Asked) (end : End) (f : Frontend) (answer : FrontendAnswer) (new : Front) → TakesAt (call_of asked.call) asked.sent end f answer new
    → TakesResult (call_of asked.call) asked.sent.awaited (fields_of asked.sent.request) end f (answer_of answer) (endpoint_of new) (session_of new)
taken-at asked end f answer new t = t.taken (may-await (call_of asked.call) asked.sent.awaited asked.awaited) (is-kept (call_of asked.call) asked.sent.awaited asked.sent.kept asked.kept)

at-end : (asked : Asked) (old : Front) (answer : FrontendAnswer) (new : Front) → TakesWell (call_of asked.call) asked.sent old answer new → TakesAt (call_of asked.call) asked.sent (endpoint_of old) (session_of old) answer new
at-end asked old answer new t = record { taken = t.taken; quiet = t.quiet }

taken : (asked : Asked) (old : Front) (answer : FrontendAnswer) (new : Front) → TakesWell (call_of asked.call) asked.sent old answer new
    → TakesResult (call_of asked.call) asked.sent.awaited (fields_of asked.sent.request) (endpoint_of old) (session_of old) (answer_of answer) (endpoint_of new) (session_of new)
taken asked old answer new t = taken-at asked (endpoint_of old) (session_of old) answer new (at-end asked old answer new t)

-- the session after that
uncut-after : (asked : Asked) (end : End) (f : Frontend) (answer : FrontendAnswer) (new : Front) → TakesAt (call_of asked.call) asked.sent end f answer new → IsUncut end → IsUncut (endpoint_of new)
uncut-after asked end f answer new t = takes (call_of asked.call) asked.sent.awaited (fields_of asked.sent.request) end f (answer_of answer) (endpoint_of new) (session_of new) (taken-at asked end f answer new t)

-- whether what came has the size of the call's answer
sized : (profile p : Profile) (asked : Asked) (i : Incoming) (a : Awaited) (b : Bool) → p ≡ profile → a ≡ asked.sent.awaited → b ≡ is_sized p (call_of asked.call) a (header_of i.head).size → is_sized_of profile asked i ≡ b
sized profile p asked i a b same is found = sym (found ∙ (λ j. is_sized (same j) (call_of asked.call) (is j) (header_of i.head).size))

pub take-requires-in-Some : goal.take-requires-in-Some
take-requires-in-Some c = sym (c.args.self.now.awaited ∙ ap of-asked (sym c.in-Some.ensures.value))

pub invariant_of-self : goal.invariant_of-self
invariant_of-self c =
    let old = c.args.self.now.frontend in
    let u = uncut-after c.in-Some.field-0 (emptied (endpoint_of old)) (session_of old) c.take_nothing-nothing.result c.take_nothing-nothing.new.frontend c.take_nothing-nothing.ensures (record { uncut = c.args.self.now.uncut; broken = c.args.self.now.broken }) in
    record { uncut = u.uncut; broken = u.broken; awaited = c.take_nothing-nothing.ensures.quiet ∙ ap of-asked (sym c.take.ensures.after) }

pub invariant_of-self-in-Failed : goal.invariant_of-self-in-Failed
invariant_of-self-in-Failed c =
    let old = c.args.self.now.frontend in
    let u = uncut-after c.in-Some.field-0 (endpoint_of old) (session_of old) _ c.take-in-Some.new.frontend (at-end c.in-Some.field-0 old _ c.take-in-Some.new.frontend c.in-Failed.ensures) (record { uncut = c.args.self.now.uncut; broken = c.args.self.now.broken }) in
    record { uncut = u.uncut; broken = u.broken; awaited = c.in-Failed.ensures.quiet ∙ ap of-asked (sym c.take.ensures.after) }

pub invariant_of-self-in_default : goal.invariant_of-self-in_default
invariant_of-self-in_default c =
    let old = c.args.self.now.frontend in
    let u = uncut-after c.in-Some.field-0 (endpoint_of old) (session_of old) _ c.take-in-Some.new.frontend (at-end c.in-Some.field-0 old _ c.take-in-Some.new.frontend c.take-in-Some.ensures) (record { uncut = c.args.self.now.uncut; broken = c.args.self.now.broken }) in
    record { uncut = u.uncut; broken = u.broken; awaited = c.take-in-Some.ensures.quiet ∙ ap of-asked (sym c.take.ensures.after) }

pub returns-then-not-is_sized-clause-taken : goal.returns-then-not-is_sized-clause-taken
returns-then-not-is_sized-clause-taken c = other_size c.in-Some.field-0 c.take_nothing-nothing.result (none_missing _ _ c.missing.ensures.missing c.if-missing-gt0.false)
    (sized _ _ c.in-Some.field-0 c.args.self.now.incoming c.awaited.result c.is_sized.result c.profile-profile.ensures c.awaited.ensures c.is_sized.ensures ∙ c.if-not-is_sized.true) (record {
      was = sym c.in-Some.ensures.value;
      taken = taken-at c.in-Some.field-0 _ _ _ _ c.take_nothing-nothing.ensures;
      now = c.take.ensures.after;
      quiet = c.take_nothing-nothing.ensures.quiet;
      outgoing = refl;
      inactive = refl;
    }) refl

pub returns-in-Failed-clause-taken : goal.returns-in-Failed-clause-taken
returns-in-Failed-clause-taken c = failed c.in-Some.field-0 (none_missing _ _ c.missing.ensures.missing c.if-missing-gt0.false)
    (sized _ _ c.in-Some.field-0 c.args.self.now.incoming c.awaited.result c.is_sized.result c.profile-profile.ensures c.awaited.ensures c.is_sized.ensures ∙ c.if-not-is_sized.false) (record {
      was = sym c.in-Some.ensures.value;
      taken = taken c.in-Some.field-0 _ _ _ c.in-Failed.ensures;
      now = c.take.ensures.after;
      quiet = c.in-Failed.ensures.quiet;
      outgoing = refl;
      inactive = refl;
    }) refl

pub returns-in-Some-clause-taken : goal.returns-in-Some-clause-taken
returns-in-Some-clause-taken c =
    let asked = c.in-Some.field-0 in let old = c.args.self.now.frontend in let new = c.take-in-Some.new.frontend in
    let result = taken asked old c.take-in-Some.result new c.take-in-Some.ensures in
    kept asked (none_missing _ _ c.missing.ensures.missing c.if-missing-gt0.false)
    (sized _ _ asked c.args.self.now.incoming c.awaited.result c.is_sized.result c.profile-profile.ensures c.awaited.ensures c.is_sized.ensures ∙ c.if-not-is_sized.false) (record {
      was = sym c.in-Some.ensures.value;
      taken = result;
      now = c.take.ensures.after;
      quiet = c.take-in-Some.ensures.quiet;
      outgoing = refl;
      inactive = refl;
    }) (names c.talks_law.ensures.talks (call_of asked.call) asked.sent.awaited (fields_of asked.sent.request) (endpoint_of old) (session_of old) (answer_of c.take-in-Some.result) (endpoint_of new) (session_of new) result) c.in_default.not-Failed

-- a session with the same call
same : (s : Session) (a : Option Asked) (u : (endpoint_of s.frontend).link.script ≡ []) (b : ForSome (endpoint_of s.frontend).broken (λ c. c ≡ Raw ENOMEM)) (w : awaits s.frontend ≡ of-asked a) → a ≡ s.asked
    → record s { asked = a; uncut = u; broken = b; awaited = w } ≡ s
same s a u b w is = subst (λ (x : Option Asked). (v : awaits s.frontend ≡ of-asked x) → record s { asked = x; uncut = u; broken = b; awaited = v } ≡ s) (sym is)
    (λ v i. record s { uncut = uncut-prop (endpoint_of s.frontend) u s.uncut i; broken = broken-prop (endpoint_of s.frontend) b s.broken i; awaited = awaited-set (awaits s.frontend) (of-asked s.asked) v s.awaited i }) w

pub returns-clause-taken : goal.returns-clause-taken
returns-clause-taken c = nothing_asked (sym c.in-None.ensures.value) (same c.args.self.now _ _ _ _ (c.take.ensures.after ∙ c.in-None.ensures.value))
