-- What a call awaits once its request went out, by what it becomes.
use Rattle.std.proofs.Common.{◌≡◌, ◌⊎◌, Bool, true, false, cond, Option, Some, None, Result, Ok, Err, refl, sym, subst, inl, inr}
use Rattle.vhost_protocol.specs.Ask.{Asked, ask, given, ◌>>◌, ◌>>=◌}
use Rattle.vhost_protocol.specs.Error.{Error}
use Rattle.vhost_protocol.specs.FrontendCall.{FrontendCall, Frontend, SetLogBase}
use Rattle.vhost_protocol.specs.declared.asked.Awaited.{Awaited}
use Rattle.vhost_protocol.specs.declared.asked.Awaited.TheVariants.{Ack, Nobody, Reply}
use Rattle.vhost_protocol.specs.declared.asked.Shape.{Shape}
use Rattle.vhost_protocol.specs.declared.asked.Shape.TheVariants as shape
use Rattle.vhost_link.specs.Law.{Event}
use Rattle.vhost_connection.specs.Talk.{State}
use Rattle.vhost_frontend_core.specs.Asking.{AsksWithRoom}
use Rattle.vhost_frontend_core.specs.Asking.Asks.{goes}
use Rattle.vhost_frontend_core.specs.Asking.AsksWithRoom.{roomy}
use Rattle.vhost_frontend_core.specs.Awaiting.{MayAwait, AwaitsAllowed}
use Rattle.vhost_frontend_core.specs.Taking.{IsAck}
use Rattle.vhost_frontend_core.specs.declared.asked.Sent.{Sent}

-- ---- the cases of what may be awaited

acked : (on : Bool) → IsAck (cond on Ack Nobody)
acked true = tt
acked false = tt

acked-or : (on : Bool) (s : Shape) → IsAck (cond on Ack Nobody) ⊎ (cond on Ack Nobody ≡ Reply s)
acked-or on s = inl (acked on)

replied-or : (s : Shape) → IsAck (Reply s) ⊎ (Reply s ≡ Reply s)
replied-or s = inr refl

base-acked : (standard on : Bool) → IsAck (cond standard (cond on Ack Nobody) Nobody) ⊎ (cond standard (cond on Ack Nobody) Nobody ≡ Reply shape.Log)
base-acked true on = inl (acked on)
base-acked false on = inl tt

turn-acked : (standard agreed on : Bool) → IsAck (cond standard (cond agreed Ack Nobody) (cond on Ack Nobody))
turn-acked true agreed on = acked agreed
turn-acked false agreed on = acked on

end-replied : (standard on : Bool) → IsAck (cond standard (Reply shape.U64) (cond on Ack Nobody)) ⊎ (cond standard (Reply shape.U64) (cond on Ack Nobody) ≡ Reply shape.U64)
end-replied true on = inr refl
end-replied false on = inl (acked on)

module _ (H : Type 0) (call : FrontendCall H) where
  behind-test : (x : Result (Unit {0}) Error) (next : Asked H) → AwaitsAllowed call next → AwaitsAllowed call (x >> next)
  behind-test (Ok u) next h = h
  behind-test (Err e) next h = tt

  behind-given : (A : Type 0) (x : Option A) (next : A → Asked H) → ((a : A) → AwaitsAllowed call (next a)) → AwaitsAllowed call (given x >>= next)
  behind-given A (Some a) next h = h a
  behind-given A None next h = tt

  either-way : (b : Bool) (x y : Asked H) → AwaitsAllowed call x → AwaitsAllowed call y → AwaitsAllowed call (cond b x y)
  either-way true x y h k = h
  either-way false x y h k = k

ruleset awaiting = (behind-test, behind-given, either-way, acked, acked-or, replied-or, base-acked, turn-acked, end-replied)

-- ---- each call

each-awaits : {H : Type 0} (f : Frontend) (call : FrontendCall H) → AwaitsAllowed call (ask f call)
each-awaits f (SetLogBase base None) = search awaiting
each-awaits f (SetLogBase base (Some r)) = search awaiting
each-awaits f _ = search awaiting

-- a call that was sent awaits what it may
pub may-be-awaited : {L H : Type 0} (event : L → Event H → L → Type 0) (call : FrontendCall H) (old new : State L H) (f f' : Frontend) (before after : Awaited) (sent : Sent) → AsksWithRoom event (ask f call) old f before (Ok sent) new f' after
    → MayAwait call sent.awaited
may-be-awaited event call old new f f' before after sent (roomy (goes is g)) = subst (MayAwait call) (sym g.awaits) (subst (λ x. AwaitsAllowed call x) is (each-awaits f call))
