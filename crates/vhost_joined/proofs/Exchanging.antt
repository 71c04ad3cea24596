-- What became of a call that was asked, as an exchange.
use Rattle.std.proofs.Common.{◌≡◌, inl, inr, Option, Some, None, Result, Ok, Err, true, refl, sym, ◌∙◌, ap, subst}
use Rattle.std.specs.Prelude.{IfSome}
use Rattle.vhost_message.specs.declared.error.Error as declared
use Rattle.vhost_message.specs.declared.error.Error.TheVariants as error
use Rattle.vhost_protocol.specs.Ask.{ask}
use Rattle.vhost_protocol.specs.declared.asked.Awaited.{Awaited}
use Rattle.vhost_protocol.specs.FrontendCall.{FrontendCall, Nothing, Frontend}
use Rattle.vhost_link.specs.declared.plain.PlainHandle.{PlainHandle}
use Rattle.vhost_link.specs.Ends.{Ends}
use Rattle.vhost_link.specs.Mem.{event}
use Rattle.vhost_frontend_core.specs.Asking as asking
use Rattle.vhost_frontend_core.specs.Awaiting.{MayAwait}
use Rattle.vhost_frontend_core.specs.Frontend.{endpoint_of, session_of, awaits}
use Rattle.vhost_frontend_core.specs.Halves.{AsksHalfWithRoom, makes_room}
use Rattle.vhost_frontend_core.specs.declared.asked.Sent.{Sent}
use Rattle.vhost_frontend_core.specs.declared.internal.FrontendInternal.{FrontendInternal}
use Rattle.vhost_frontend_core.proofs.Awaiting.{may-await-with-room}
use Rattle.vhost_frontend_core.specs.Values.{answer_of}
use Rattle.vhost_frontend_core.specs.ValueHalves as halves
use Rattle.vhost_frontend_core.specs.ValueHalves.{IsProper, AsksCall, MayWant, WantsFor}
use Rattle.vhost_joined.specs.declared.halt.Halt.TheVariants as halt
use Rattle.vhost_joined.specs.declared.sides.Exchanged.{Exchanged}
use Rattle.vhost_joined.specs.Device.{Gives}
use Rattle.vhost_joined.specs.Text.{no_text}
use Rattle.vhost_joined.specs.Sides as sides
use Rattle.vhost_joined.specs.Sides.{Parts, IsAskedBy, EndsUnsent, Serves, Exchanges}
use Rattle.vhost_joined.proofs.Asked.{unroomy}
use Rattle.vhost_joined.proofs.Spent.{End}
use Rattle.vhost_joined.proofs.Handing.{same-asked}

abbrev Core : Type 0
Core = FrontendInternal Ends PlainHandle

module _ (call : FrontendCall PlainHandle) (old new : Core) where
  half-of : (sent : Sent) → AsksCall call old (Ok (Some sent)) new → AsksHalfWithRoom event call old (Ok sent) new
  half-of sent (halves.half h) = h

  refusal-of : (e : declared.Error) → AsksCall call old (Err e) new → AsksHalfWithRoom event call old (Err e) new
  refusal-of e (halves.refused h) = h

  -- of the result's field, where it is some request
  sent-in : (o : Option Sent) (sent : Sent) → o ≡ Some sent → AsksCall call old (Ok o) new → AsksHalfWithRoom event call old (Ok sent) new
  sent-in o sent is h = half-of sent (subst (λ (x : Option Sent). AsksCall call old (Ok x) new) is h)

  pub sent-so : (o : Option Sent) (sent : Sent) → o ≡ Some sent → AsksCall call old (Ok o) new → MayAwait call sent.awaited
  sent-so o sent is h = may-await-with-room call (sent-in o sent is h)

  module _ {Dev : Type 0} (gives : Gives Dev) (before : Parts Dev) (asks : before.asking ≡ endpoint_of old) (frontend : before.frontend ≡ session_of old) (awaited : before.awaited ≡ awaits old) where
    -- both sides, once the frontend asked
    abbrev after : Parts Dev
    after = record before { asking = endpoint_of new; frontend = session_of new; awaited = awaits new }

    asked-by : (result : Result Sent declared.Error) → AsksHalfWithRoom event call old result new → IsAskedBy call before result after
    asked-by result h = record {
      asks = subst (λ (e : End). asking.AsksWithRoom event (ask before.frontend call) e before.frontend before.awaited result (endpoint_of new) (session_of new) (awaits new)) (sym asks)
          (subst (λ (f : Frontend). asking.AsksWithRoom event (ask f call) (endpoint_of old) f before.awaited result (endpoint_of new) (session_of new) (awaits new)) (sym frontend)
          (subst (λ (a : Awaited). asking.AsksWithRoom event (ask (session_of old) call) (endpoint_of old) (session_of old) a result (endpoint_of new) (session_of new) (awaits new)) (sym awaited) h));
      same = refl;
    }

    -- it was sent and served
    pub sent-exchange : (o : Option Sent) (sent : Sent) (x : Exchanged) (end : Parts Dev) → o ≡ Some sent → AsksCall call old (Ok o) new → IfSome o (λ s. IsProper call) → Serves gives call sent after x end → Exchanges gives call before (Ok x) end
    sent-exchange o sent x end is h proper done = sides.sent_out sent after (subst (λ (y : Option Sent). IfSome y (λ s. IsProper call)) is proper) (asked-by (Ok sent) (sent-in o sent is h)) done

    -- it was done without a message
    pub done-exchange : (o : Option Sent) → o ≡ None → (x : Exchanged) (end : Parts Dev) → AsksCall call old (Ok o) new → (answer_of x.answer ≡ Ok Nothing) × (x.stop ≡ None) → end ≡ record after { request = no_text; reply = no_text }
        → Exchanges gives call before (Ok x) end
    done-exchange _ none x end (halves.half h) answers same = absurd (cc none)
    done-exchange _ none x end (halves.at_once flags is link session nobody) answers same =
        let kept : after ≡ record before { frontend = record before.frontend { header_flags = flags } } =
        same-asked (record before { frontend = record before.frontend { header_flags = flags } }) (endpoint_of new) (session_of new) (awaits new) (link ∙ sym asks)
        (session ∙ ap {A = Frontend} {B = Frontend} (λ f. record f { header_flags = flags }) (sym frontend)) (nobody ∙ sym awaited) in
        sides.at_once flags is answers.0 answers.1 (same ∙ ap {A = Parts Dev} {B = Parts Dev} (λ p. record p { request = no_text; reply = no_text }) kept)

    -- it was not sent
    pub unsent-exchange : (e : declared.Error) (x : Exchanged) (end : Parts Dev) → (e ≡ error.OutOfMemory → ⊥) → AsksCall call old (Err e) new → EndsUnsent e after x end → Exchanges gives call before (Ok x) end
    unsent-exchange e x end other h ends = sides.unsent e after other (asked-by (Err e) (refusal-of e h)) ends

    -- the list was there, so the call makes room
    roomy : before.asking.list ≡ true → MayWant call old new → makes_room before.frontend call ≡ true
    roomy list (inl room) = ap (λ f. makes_room f call) frontend ∙ room
    roomy list (inr (away, same)) = absurd (cc (sym (ap {A = End} (λ e. e.list) asks ∙ away) ∙ list))

    -- there was no room for its answer
    pub roomless-exchange : (e : declared.Error) → e ≡ error.OutOfMemory → before.asking.list ≡ true → AsksCall call old (Err e) new → WantsFor {A = Option Sent} call old (Err e) new → Exchanges gives call before (Err halt.OutOfMemory) after
    roomless-exchange e is list h wants =
        let none : AsksHalfWithRoom event call old (Err error.OutOfMemory) new = subst (λ (x : declared.Error). AsksHalfWithRoom event call old (Err x) new) is (refusal-of e h) in
        let kept = unroomy call (endpoint_of old) (session_of old) (awaits old) (ap {A = End} (λ e. e.list) (sym asks) ∙ list) none in
        sides.no_room (roomy list (wants is)) (same-asked before (endpoint_of new) (session_of new) (awaits new) (kept.0 ∙ sym asks) (kept.1 ∙ sym frontend) (kept.2 ∙ sym awaited))
