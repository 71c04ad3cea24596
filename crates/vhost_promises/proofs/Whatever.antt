-- What a step of a joined run does, whatever was before.
use Rattle.std.proofs.Common.{◌≡◌, inl, true, List, [], Option, Result, Ok, Err, refl, sym, ap, subst, ◌∙◌}
use Rattle.std.specs.Prelude.{⊤, IfOk}
use Rattle.vhost_message.specs.declared.heard_req.HeardReq.{HeardReq}
use Rattle.vhost_protocol.specs.Ask as ask
use Rattle.vhost_protocol.specs.Ask.{Asked, ask}
use Rattle.vhost_protocol.specs.Error.{Error, InvalidParam}
use Rattle.vhost_protocol.specs.FrontendCall.{FrontendCall, Value}
use Rattle.vhost_protocol.specs.Stream.{Cell, has_some}
use Rattle.vhost_protocol.specs.Written.{Written}
use Rattle.vhost_link.specs.declared.cut.Cut.{Cut}
use Rattle.vhost_link.specs.declared.plain.PlainHandle.{PlainHandle}
use Rattle.vhost_frontend_core.specs.Values.{answer_of}
use Rattle.vhost_frontend_core.specs.declared.values.answer.FrontendAnswer.{FrontendAnswer}
use Rattle.vhost_joined.specs.Device.{Gives}
use Rattle.vhost_joined.specs.Joined as joined
use Rattle.vhost_joined.specs.Joined.{View, Cuts, Passes, Steps, Moves, request_cells, unheard}
use Rattle.vhost_joined.specs.Text.{no_text, text_of}
use Rattle.vhost_joined.specs.declared.halt.Halt.{Halt}
use Rattle.vhost_promises.specs.Joined.{FailsAtOnce}
use Rattle.vhost_promises.specs.Scripts.{left_with}
use Rattle.vhost_promises.proofs.ByScript.{no-fault}

-- the error of a refusal
refusal_in : Asked PlainHandle → Error
refusal_in (ask.Refuses e) = e
refusal_in _ = InvalidParam

-- a request has a first byte
some-request : (w : Written HeardReq PlainHandle) → has_some (request_cells w) ≡ true
some-request w = refl

module _ {Dev : Type 0} (gives : Gives Dev) (old new : View Dev) (call : FrontendCall PlainHandle) where
  -- ---- a call that its tests refuse

  refuses : (e : Error) (result : Result (Value PlainHandle) Error) → ask old.frontend call ≡ ask.Refuses e → Moves gives old call result new → (result ≡ Err e) × (new ≡ record old { lists = true; request = no_text; reply = no_text })
  unfolding refusal_in
  refuses e result is (joined.refused x asked answers same) = (answers ∙ ap (λ (y : Error). Err y) (ap refusal_in (sym asked ∙ is)), same)
  refuses e result is (joined.at_once v g asked answers same) = absurd (cc (sym asked ∙ is))
  refuses e result is (joined.unsent w awaited after c gone read asked stops answers on_way same) = absurd (cc (sym asked ∙ is))
  refuses e result is (joined.sent x) = let asked = x.asked in absurd (cc (sym asked ∙ is))

  pub step-refuses : (e : Error) (r : Result FrontendAnswer Halt) → ask old.frontend call ≡ ask.Refuses e → Steps gives old call r new → IfOk r (λ a. (answer_of a ≡ Err e) × (new ≡ record old { lists = true; request = no_text; reply = no_text }))
  step-refuses e (Ok a) is steps = refuses e (answer_of a) is steps.1
  step-refuses e (Err h) is steps = tt

  -- ---- a handler's link that fails at once

  module _ (fails : FailsAtOnce old.serving) (none : old.to_handler ≡ []) where
    passes-not : (w : Written HeardReq PlainHandle) (mid : Cuts) → Passes old.budget (unheard old.to_handler (request_cells w)) old.serving mid → ⊥
    passes-not w mid p =
        let whole : Passes old.budget (request_cells w) old.serving mid = subst (λ way. Passes old.budget (unheard way (request_cells w)) old.serving mid) none p in
        no-fault old.budget old.serving.wants fails.0 fails.1 (request_cells w) mid fails.3 (some-request w) (subst (λ (script : List Cut). Passes old.budget (request_cells w) (left_with script old.serving.wants) mid) fails.2 whole)

    nothing-came : (w : Written HeardReq PlainHandle) (left came : List (Cell PlainHandle)) (answer : Option (Result ⊤ Error)) → joined.Serves gives old new w left came answer → came ≡ []
    nothing-came w left came _ (joined.full some came' session device link on_way) = came'
    nothing-came w left came _ (joined.unread c read s came' session device on_way) = came'
    nothing-came w left came _ (joined.unanswered c m answer reply after count s first met short front session) = absurd (passes-not w s.mid s.asked)
    nothing-came w left came _ (joined.served heard answer p first handles) = absurd (passes-not w p.mid p.asked)

    shows-nothing : (result : Result (Value PlainHandle) Error) → Moves gives old call result new → new.reply ≡ no_text
    shows-nothing result (joined.refused x asked answers same) = ap (λ v. v.reply) same
    shows-nothing result (joined.at_once v g asked answers same) = ap (λ v'. v'.reply) same
    shows-nothing result (joined.unsent w awaited after c gone read asked stops answers on_way same) = ap (λ v. v.reply) same
    shows-nothing result (joined.sent x) = x.reply (inl none) ∙ ap text_of (nothing-came x.message x.left x.came x.answer x.serves)

    pub step-shows-nothing : (r : Result FrontendAnswer Halt) → Steps gives old call r new → IfOk r (λ a. new.reply ≡ no_text)
    step-shows-nothing (Ok a) steps = shows-nothing (answer_of a) steps.1
    step-shows-nothing (Err h) steps = tt
