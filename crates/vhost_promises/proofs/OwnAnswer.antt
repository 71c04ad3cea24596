-- A call that succeeded in one turn has its own answer.
use Rattle.std.proofs.Common.{◌≡◌, Result, Ok, Err, IfOk, subst}
use Rattle.vhost_message.specs.declared.error.Error as declared
use Rattle.vhost_backend.specs.declared.error.Error as device
use Rattle.vhost_protocol.specs.FrontendCall.{FrontendCall, Value}
use Rattle.vhost_link.specs.Law.{Event}
use Rattle.vhost_frontend_core.specs.Asking.Asks.{goes}
use Rattle.vhost_frontend_core.specs.Taking.Takes.{taken}
use Rattle.vhost_frontend.specs.Turn.{Turn, within}
use Rattle.vhost_frontend.specs.Whole.{Whole}
use Rattle.vhost_frontend.specs.Whole.Calls.{answered}
use Rattle.vhost_promises.specs.Shared.{OwnAnswer}

module _ {L H A : Type 0} {event : L → Event H → L → Type 0} {call : FrontendCall H} (value : A → Value H) where
  pub own-answer : (result : Result A device.Error) → Turn event (Whole event call value) result → IfOk result (λ a. OwnAnswer event call (value a))
  own-answer (Err e) t = tt
  own-answer (Ok a) t = by t.answer t.went t.answers
    where
      by : (answer : Result A declared.Error) → Whole event call value t.old answer t.new → Ok a ≡ within answer → OwnAnswer event call (value a)
      by (Err e) went is = absurd cc
      by (Ok b) (answered {sent = sent} {middle} (goes {w} {awaited} asked g) (taken reads)) is =
          subst (λ x. OwnAnswer event call (value x)) same
          (record { old = t.old; middle = middle; new = t.new; message = w; awaited = awaited; sent = sent; before = t.before; asked = asked; went = g; read = reads; after = t.after })
        where
          same : b ≡ a
          same = cc
