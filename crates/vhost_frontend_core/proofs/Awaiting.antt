-- Each call awaits what it may await.
use Rattle.std.proofs.Common.{◌≡◌, Bool, true, false, cond, ◌⊎◌, Option, Some, None, Result, Ok, Err, refl, sym, subst, inl, inr}
use Rattle.vhost_message.specs.declared.error.Error as declared
use Rattle.vhost_message.specs.declared.heard_req.HeardReq.{HeardReq}
use Rattle.vhost_protocol.specs.Error.{Error}
use Rattle.vhost_protocol.specs.FrontendCall.{FrontendCall, Frontend, SetLogBase, GetFeatures, GetProtocolFeatures, GetQueueNum, GetVringBase, GetSharedObject, GetInflightFd, GetMaxMemSlots, GetShmemConfig, SetDeviceStateFd, CheckDeviceState, PostcopyAdvise}
use Rattle.vhost_protocol.specs.Written.{Written}
use Rattle.vhost_protocol.specs.Ask.{Asked, Sends, ask, given, ◌>>◌, ◌>>=◌}
use Rattle.vhost_protocol.specs.declared.asked.Awaited.{Awaited}
use Rattle.vhost_protocol.specs.declared.asked.Awaited.TheVariants.{Ack, Nobody, Reply}
use Rattle.vhost_protocol.specs.declared.asked.Shape.{Shape}
use Rattle.vhost_protocol.specs.declared.asked.Shape.TheVariants as shape
use Rattle.vhost_link.specs.Law.{Event}
use Rattle.vhost_connection.specs.Talk.{State}
use Rattle.vhost_frontend_core.specs.Asking as asking
use Rattle.vhost_frontend_core.specs.Asking.{Asks, AsksWithRoom}
use Rattle.vhost_frontend_core.specs.Taking.{IsAck}
use Rattle.vhost_frontend_core.specs.declared.asked.Sent.{Sent}
use Rattle.vhost_frontend_core.specs.Awaiting.{MayAwait, AwaitsAllowed}

is-ack : (b : Bool) → IsAck (cond b Ack Nobody)
is-ack true = tt
is-ack false = tt

or-ack : (b : Bool) (s : Shape) → IsAck (cond b Ack Nobody) ⊎ (cond b Ack Nobody ≡ Reply s)
or-ack b s = inl (is-ack b)

or-reply : (s : Shape) → IsAck (Reply s) ⊎ (Reply s ≡ Reply s)
or-reply s = inr refl

or-base : (standard b : Bool) → IsAck (cond standard (cond b Ack Nobody) Nobody) ⊎ (cond standard (cond b Ack Nobody) Nobody ≡ Reply shape.Log)
or-base true b = inl (is-ack b)
or-base false b = inl tt

either-ack : (standard a b : Bool) → IsAck (cond standard (cond a Ack Nobody) (cond b Ack Nobody))
either-ack true a b = is-ack a
either-ack false a b = is-ack b

or-end : (standard b : Bool) → IsAck (cond standard (Reply shape.U64) (cond b Ack Nobody)) ⊎ (cond standard (Reply shape.U64) (cond b Ack Nobody) ≡ Reply shape.U64)
or-end true b = inr refl
or-end false b = inl (is-ack b)

module _ (H : Type 0) (call : FrontendCall H) where
  allowed-then : (x : Result (Unit {0}) Error) (next : Asked H) → AwaitsAllowed call next → AwaitsAllowed call (x >> next)
  allowed-then (Ok u) next h = h
  allowed-then (Err e) next h = tt

  allowed-given : (A : Type 0) (x : Option A) (next : A → Asked H) → ((a : A) → AwaitsAllowed call (next a)) → AwaitsAllowed call (given x >>= next)
  allowed-given A (Some a) next h = h a
  allowed-given A None next h = tt

  allowed-cond : (b : Bool) (x y : Asked H) → AwaitsAllowed call x → AwaitsAllowed call y → AwaitsAllowed call (cond b x y)
  allowed-cond true x y h k = h
  allowed-cond false x y h k = k

ruleset allowing = (allowed-then, allowed-given, allowed-cond, is-ack, or-ack, or-reply, or-base, either-ack, or-end)

allowed : {H : Type 0} (f : Frontend) (call : FrontendCall H) → AwaitsAllowed call (ask f call)
allowed f (SetLogBase base None) = search allowing
allowed f (SetLogBase base (Some r)) = search allowing
allowed f _ = search allowing

-- a call that was sent awaits what it may
pub awaits-allowed : {H : Type 0} (f : Frontend) (call : FrontendCall H) (w : Written HeardReq H) (a : Awaited) (g : Frontend) → ask f call ≡ Sends w a g → MayAwait call a
awaits-allowed f call w a g is = subst (λ (x : Asked _). AwaitsAllowed call x) is (allowed f call)

-- the shape of the reply, where a call always has one
abbrev pub replies : {H : Type 0} → FrontendCall H → Option Shape
replies GetFeatures = Some shape.U64
replies GetProtocolFeatures = Some shape.U64
replies GetQueueNum = Some shape.U64
replies (GetVringBase i) = Some shape.VringState
replies (GetSharedObject name) = Some shape.Empty
replies (GetInflightFd area) = Some shape.Inflight
replies GetMaxMemSlots = Some shape.U64
replies GetShmemConfig = Some shape.ShMemConfig
replies (SetDeviceStateFd t h) = Some shape.U64
replies CheckDeviceState = Some shape.U64
replies PostcopyAdvise = Some shape.Empty
replies _ = None

-- its reply is awaited
pub awaits-reply : {H : Type 0} (call : FrontendCall H) (a : Awaited) (s : Shape) → replies call ≡ Some s → MayAwait call a → a ≡ Reply s
awaits-reply GetFeatures a s e may = cc
awaits-reply _ a s e may = cc

module _ {L H : Type 0} {event : L → Event H → L → Type 0} where
  -- what was sent is what is awaited
  pub sent-awaits : {asked : Asked H} {old new : State L H} {f f' : Frontend} {before after : Awaited} {sent : Sent} → Asks event asked old f before (Ok sent) new f' after → sent.awaited ≡ after
  sent-awaits (asking.goes is g) = g.awaits

  pub sent-awaits-with-room : {asked : Asked H} {old new : State L H} {f f' : Frontend} {before after : Awaited} {sent : Sent} → AsksWithRoom event asked old f before (Ok sent) new f' after → sent.awaited ≡ after
  sent-awaits-with-room (asking.roomy x) = sent-awaits x

  -- whoever could not ask awaits what was awaited before
  pub still-awaits : {asked : Asked H} {old new : State L H} {f f' : Frontend} {before after : Awaited} {e : declared.Error} → Asks event asked old f before (Err e) new f' after → after ≡ before
  still-awaits (asking.refuses x) = refl
  still-awaits (asking.fails x y) = refl

  pub still-awaits-with-room : {asked : Asked H} {old new : State L H} {f f' : Frontend} {before after : Awaited} {e : declared.Error} → AsksWithRoom event asked old f before (Err e) new f' after → after ≡ before
  still-awaits-with-room (asking.roomy x) = still-awaits x
  still-awaits-with-room (asking.no_room x) = refl

  -- what was sent awaits what its call may await
  pub may-await : (call : FrontendCall H) {old new : State L H} {f f' : Frontend} {before after : Awaited} {sent : Sent} → Asks event (ask f call) old f before (Ok sent) new f' after → MayAwait call sent.awaited
  may-await call {f = f} (asking.goes is g) = subst (MayAwait call) (sym g.awaits) (awaits-allowed f call _ _ _ is)

  pub may-await-with-room : (call : FrontendCall H) {old new : State L H} {f f' : Frontend} {before after : Awaited} {sent : Sent} → AsksWithRoom event (ask f call) old f before (Ok sent) new f' after
      → MayAwait call sent.awaited
  may-await-with-room call {f = f} (asking.roomy x) = may-await call {f = f} x
