-- A session that turns led to is poisoned only where its link has failed.
use Rattle.std.proofs.Common.{◌≡◌, ◌⊎◌, inl, inr, Bool, Option, Some, None, Result, sym, ap, ◌∙◌, refl}
use mathlib.Core.Logic.{∥∥₁_map}
use Rattle.vhost_message.specs.declared.cause.IoCause.{IoCause}
use Rattle.vhost_message.specs.declared.error.Error as declared
use Rattle.vhost_message.specs.Header.{Header}
use Rattle.vhost_backend.specs.declared.error.Error as device
use Rattle.vhost_protocol.specs.Ask.{Asked}
use Rattle.vhost_protocol.specs.FrontendCall.{FrontendCall, Frontend, Value}
use Rattle.vhost_protocol.specs.declared.asked.Awaited.{Awaited}
use Rattle.vhost_link.specs.Law.{Event}
use Rattle.vhost_connection.specs.Hearing.{Fails}
use Rattle.vhost_connection.specs.Hearing.Fails.{was_broken, no_memory, fault}
use Rattle.vhost_connection.specs.Talk.{State}
use Rattle.vhost_frontend_core.specs.Asking.{Asks, AsksWithRoom}
use Rattle.vhost_frontend_core.specs.Asking.Asks.{refuses, goes, fails}
use Rattle.vhost_frontend_core.specs.Asking.AsksWithRoom.{roomy, no_room}
use Rattle.vhost_frontend_core.specs.Frontend.{endpoint_of}
use Rattle.vhost_frontend_core.specs.Halves.{AsksHalf, AsksHalfWithRoom}
use Rattle.vhost_frontend_core.specs.Taking.{Takes}
use Rattle.vhost_frontend_core.specs.Taking.Reads.{unread, read}
use Rattle.vhost_frontend_core.specs.Taking.Takes.{taken, stopped}
use Rattle.vhost_frontend_core.specs.declared.asked.Sent.{Sent}
use Rattle.vhost_frontend_core.specs.declared.internal.FrontendInternal.{FrontendInternal}
use Rattle.vhost_frontend.specs.Turn as turn
use Rattle.vhost_frontend.specs.Turn.{Reached, Turn}
use Rattle.vhost_frontend.specs.Whole.{Calls}
use Rattle.vhost_frontend.specs.Whole.Calls.{answered, ended}
use Rattle.vhost_promises.specs.Shared.{FindsSound, HasFailed}

-- it was poisoned before, or the link has failed
abbrev Blamed : {L H : Type 0} → (L → Event H → L → Type 0) → IoCause → State L H → Type 0
Blamed event c old = (old.broken ≡ Some c) ⊎ HasFailed event

-- what was poisoned before has its own reason
before-that : {A B : Type 0} → A ⊎ B → (A → B) → B
before-that (inl a) reason = reason a
before-that (inr b) reason = b

module _ {L H : Type 0} (event : L → Event H → L → Type 0) (c : IoCause) where
  by-failing : {old new : State L H} {between : Bool} {e : declared.Error} → Fails event old between e new → new.broken ≡ Some c → Blamed event c old
  by-failing (was_broken b is) broken = inl (sym (ap (λ (s : State L H). s.broken) is) ∙ broken)
  by-failing (no_memory b l is) broken = inl (sym (ap (λ (s : State L H). s.broken) is) ∙ broken)
  by-failing {new = new} (fault cause m b fell f r t k w x y) broken = inr (fell.before, new.link, cause, fell.last)

  by-asking : {asked : Asked H} {old new : State L H} {f f' : Frontend} {before after : Awaited} {result : Result Sent declared.Error} → Asks event asked old f before result new f' after → new.broken ≡ Some c → Blamed event c old
  by-asking (refuses is) broken = inl broken
  by-asking (goes is g) broken = absurd (cc (sym g.serves.after ∙ broken))
  by-asking (fails is f) broken = by-failing f broken

  by-asking-with-room : {asked : Asked H} {old new : State L H} {f f' : Frontend} {before after : Awaited} {result : Result Sent declared.Error} → AsksWithRoom event asked old f before result new f' after → new.broken ≡ Some c → Blamed event c old
  by-asking-with-room (roomy asks) broken = by-asking asks broken
  by-asking-with-room (no_room is) broken = inl broken

  by-taking : {call : FrontendCall H} {A : Type 0} {value : A → Value H} {asked : Awaited} {sent : Header} {old new : State L H} {f f' : Frontend} {result : Result A declared.Error} → Takes event call value asked sent old f result new f' → new.broken ≡ Some c
      → Blamed event c old
  by-taking (taken (unread is)) broken = inl broken
  by-taking (taken (read h)) broken = absurd (cc (sym h.hears.serves.after ∙ broken))
  by-taking (stopped f) broken = by-failing f broken

  by-calling : {call : FrontendCall H} {A : Type 0} {value : A → Value H} {asks : FrontendInternal L H → Result Sent declared.Error → FrontendInternal L H → Type 0} {old new : FrontendInternal L H} {result : Result A declared.Error}
      → ((r : Result Sent declared.Error) (mid : FrontendInternal L H) → asks old r mid → (endpoint_of mid).broken ≡ Some c → Blamed event c (endpoint_of old))
      → Calls event call asks value old result new → (endpoint_of new).broken ≡ Some c → Blamed event c (endpoint_of old)
  by-calling asked (ended a) broken = asked _ _ a broken
  by-calling {old = old} asked (answered {middle = middle} a takes) broken = go (by-taking takes broken)
    where
      go : Blamed event c (endpoint_of middle) → Blamed event c (endpoint_of old)
      go (inl b) = asked _ middle a b
      go (inr f) = inr f

  by-turns : {s : FrontendInternal L H} → Reached event s → (endpoint_of s).broken ≡ Some c → HasFailed event
  by-turns (turn.new link queues budget at is) broken = absurd (cc (sym (ap (λ (x : State L H). x.broken) at) ∙ broken))
  by-turns (turn.flagged flags r at is) broken = by-turns r (sym (ap (λ (x : State L H). x.broken) at) ∙ broken)
  by-turns (turn.profiled profile r at is) broken = by-turns r (sym (ap (λ (x : State L H). x.broken) at) ∙ broken)
  by-turns (turn.called call r went) broken = before-that (by-calling (λ answer mid a b. by-asking a b) went broken) (λ b. by-turns r b)
  by-turns (turn.called_with_room call r went) broken = before-that (by-calling (λ answer mid a b. by-asking-with-room a b) went broken) (λ b. by-turns r b)

module _ {L H A : Type 0} {event : L → Event H → L → Type 0} {whole : FrontendInternal L H → Result A declared.Error → FrontendInternal L H → Type 0} where
  -- a turn found a session that was not poisoned, or the link has failed
  pub finds-sound : (result : Result A device.Error) → Turn event whole result → ∥ FindsSound event whole result ⊎ HasFailed event ∥₁
  finds-sound result t = ∥∥₁_map t.reached (λ r. go r (endpoint_of t.old).broken refl)
    where
      go : Reached event t.old → (b : Option IoCause) → (endpoint_of t.old).broken ≡ b → FindsSound event whole result ⊎ HasFailed event
      go r (Some c) is = inr (by-turns event c r is)
      go r None is = inl (t, is)
