-- Where no script cuts a call, a run stops for a premise only for want of memory.
use Rattle.std.proofs.Common.{◌≡◌, ℕ, zero, suc, ◌+◌, ◌-◌, ◌^◌, ◌<◌, min, Bool, true, false, List, [], ◌∷◌, drop, Option, Some, None, Result, Ok, Err, arith, refl, sym, ap, subst, ◌∙◌, inl, inr}
use Rattle.std.specs.Prelude.{⊤, if◌then◌else◌}
use Rattle.vhost_message.specs.declared.cause.IoCause.{IoCause}
use Rattle.vhost_message.specs.declared.errno.TheConstants.{ENOMEM}
use Rattle.vhost_message.specs.declared.cause.IoCause.TheVariants.{Raw}
use Rattle.vhost_message.specs.declared.heard_req.HeardReq.{HeardReq}
use Rattle.vhost_protocol.specs.Codes.{allows_handles}
use Rattle.vhost_protocol.specs.Error.{Error, OutOfMemory}
use Rattle.vhost_protocol.specs.FrontendCall as calls
use Rattle.vhost_protocol.specs.FrontendCall.{Frontend, Value}
use Rattle.vhost_protocol.specs.Handler.{MeetsRow}
use Rattle.vhost_protocol.specs.Joined.{read_as}
use Rattle.vhost_protocol.specs.Run as run
use Rattle.vhost_protocol.specs.Session.{Session, heard_in}
use Rattle.vhost_protocol.specs.Split.{Message}
use Rattle.vhost_protocol.specs.Stream.{Cell, has_some}
use Rattle.vhost_protocol.specs.Written.{Written}
use Rattle.vhost_link.specs.Cuts.{Fails, counted}
use Rattle.vhost_link.specs.declared.cut.Cut.{Cut}
use Rattle.vhost_link.specs.declared.plain.PlainHandle.{PlainHandle}
use Rattle.vhost_frontend_core.specs.Values.{call_of}
use Rattle.vhost_frontend_core.specs.declared.values.answer.FrontendAnswer.{FrontendAnswer}
use Rattle.vhost_frontend_core.specs.declared.values.call.FrontendCall.{FrontendCall}
use Rattle.vhost_joined.specs.Device.{Gives, opens_backend, opens_gpu}
use Rattle.vhost_joined.specs.Joined as joined
use Rattle.vhost_joined.specs.Joined.{View, Cuts, IsReady, Passes, PassesBoth, Stops, Exchanges, Moves, ends, is_over, stop_after}
use Rattle.vhost_joined.specs.Lockstep.{KeepsAll, Lockstep}
use Rattle.vhost_joined.specs.declared.halt.Stop.TheVariants.{Premise, Table}
use Rattle.vhost_promises.specs.Joined.{WantsMemory, of_asking, of_serving, of_handler}

drop-none : {A : Type 0} (n : ℕ) → drop {A = A} n [] ≡ []
drop-none zero = refl
drop-none (suc n) = refl

-- no cut is left
passed : (budget : ℕ) (cells : List (Cell PlainHandle)) (old new : Cuts) → Passes budget cells old new → old.script ≡ [] → new.script ≡ []
passed budget cells old new p none = p.calls.script ∙ ap (λ s. drop p.calls.used s) none ∙ drop-none p.calls.used

both-passed : (budget : ℕ) (request reply : List (Cell PlainHandle)) (old new : Cuts) → PassesBoth budget request reply old new → old.script ≡ [] → new.script ≡ []
both-passed budget request reply old new p none = passed budget reply p.mid new p.answered (passed budget request old p.mid p.asked none)

one-more : (n : ℕ) → 0 < min (n + 1) (2 ^ 64 - 1)
one-more n = omega arith

-- a call that no cut stopped wanted memory
wanted : (script : List Cut) (c : IoCause) (before after : ℕ) → script ≡ [] → Fails script c before after → 0 < after
wanted script c before after none fails = go (subst (λ (s : List Cut). Fails s c before after) none fails)
  where
    go : (c ≡ Raw ENOMEM) × (after ≡ counted before 1) → 0 < after
    go (is, count) = subst (λ n. 0 < n) (sym count) (one-more before)

-- a message that was stopped wanted memory
hungry : (budget : ℕ) (c : IoCause) (old new : Cuts) → Stops budget c old new → old.script ≡ [] → 0 < new.wants
hungry budget c old new s none = wanted s.before.script c s.before.wants new.wants (s.calls.script ∙ ap (λ x. drop s.calls.used x) none ∙ drop-none s.calls.used) s.last

-- a run that is over is none where a premise failed
no-premise : (b : Bool) → (if b then Some Table else None) ≡ Some Premise → ⊥
no-premise true is = cc is
no-premise false is = cc is

-- the handler's want of memory stops a run for a premise, and no other answer of it does
for-memory : (f : Frontend) (s : Session) (is_end : Bool) (a : Result ⊤ Error) (reply : List ℕ) → stop_after f s is_end (Some a) false reply ≡ Some Premise → a ≡ Err OutOfMemory
for-memory f s is_end (Err OutOfMemory) reply is = refl
for-memory f s is_end (Ok u) reply is = absurd (no-premise (is_over f s is_end (Ok u) reply) is)
for-memory f s is_end (Err e) reply is = absurd (no-premise (is_over f s is_end (Err e) reply) is)

module _ {Dev : Type 0} (gives : Gives Dev) (bit : Bool) where
  kept-uncut : (old new : View Dev) (calls : List FrontendCall) (answers : List FrontendAnswer) → KeepsAll gives bit old calls answers new
      → old.asking.script ≡ [] → old.serving.script ≡ [] → (new.asking.script ≡ []) × (new.serving.script ≡ [])
  kept-uncut old new calls [] same asking serving = (ap (λ v. v.asking.script) same ∙ asking, ap (λ v. v.serving.script) same ∙ serving)
  kept-uncut old new [] (a ∷ answers) kept asking serving = absurd kept
  kept-uncut old new (c ∷ calls) (a ∷ answers) (mid, k, _, _, rest) asking serving =
      kept-uncut mid new calls answers rest (both-passed old.budget _ _ old.asking mid.asking k.asking asking) (both-passed old.budget _ _ old.serving mid.serving k.serving serving)

  -- nothing is on the way
  module _ (old : View Dev) (ready : IsReady bit old) where
    none-there : has_some old.to_handler ≡ true → ⊥
    none-there some = absurd (cc (sym (ap (λ (xs : List (Cell PlainHandle)). has_some xs) ready.in_step.no_request) ∙ some))

    none-back : has_some old.to_frontend ≡ true → ⊥
    none-back some = absurd (cc (sym (ap (λ (xs : List (Cell PlainHandle)). has_some xs) ready.in_step.no_reply) ∙ some))

    -- the handler wanted memory, which its device or a handle's opening answered
    wants-behind : (new : View Dev) (w : Written HeardReq PlainHandle) (heard : Result (Message HeardReq PlainHandle) Error) (answer : Result ⊤ Error) (came : List (Cell PlainHandle)) → heard ≡ Ok (read_as w) → answer ≡ Err OutOfMemory
        → run.Handles heard_in allows_handles (λ (s : Session). s.failed) (MeetsRow gives opens_backend opens_gpu) old.session old.device heard answer came new.session new.device → WantsMemory gives new
    wants-behind new w heard answer came own is handles =
        let met : MeetsRow gives opens_backend opens_gpu old.session old.device (read_as w) answer came new.session new.device =
        subst (λ h. run.Handles heard_in allows_handles (λ (s : Session). s.failed) (MeetsRow gives opens_backend opens_gpu) old.session old.device h answer came new.session new.device) own handles in
        of_handler old w met.0 met.1 (sym met.2 ∙ is)

    module _ (new : View Dev) (call : calls.FrontendCall PlainHandle) (result : Result (Value PlainHandle) Error) (premise : new.stopped ≡ Some Premise) (asking : old.asking.script ≡ []) (serving : old.serving.script ≡ []) where
      by-handler : (w : Written HeardReq PlainHandle) (left came : List (Cell PlainHandle)) (answer : Option (Result ⊤ Error)) → joined.Serves gives old new w left came answer → stop_after new.frontend new.session (ends call) answer false new.reply.bytes ≡ Some Premise → WantsMemory gives new
      by-handler w left came _ (joined.full some came' session device link on_way) stops = absurd (none-there some)
      by-handler w left came _ (joined.unread c read s came' session device on_way) stops = of_serving (hungry old.budget c old.serving new.serving s serving)
      by-handler w left came _ (joined.unanswered c m answer reply after count s first met short front session) stops =
          of_serving (hungry old.budget c s.mid new.serving s.stopped (passed old.budget _ old.serving s.mid s.asked serving))
      by-handler w left came _ (joined.served heard answer p first handles) stops =
          wants-behind new w heard answer came (first.own ready.in_step.no_request) (for-memory new.frontend new.session (ends call) answer new.reply.bytes stops) handles

      by-frontend : (x : Exchanges gives old call result new) (lost : Bool) → joined.Takes gives old call x.message x.awaited x.after x.mid x.came result new lost → new.stopped ≡ stop_after new.frontend new.session (ends call) x.answer lost new.reply.bytes → WantsMemory gives new
      by-frontend x _ (joined.no_room (inl some) is frontend awaits link on_way) stops = absurd (none-there some)
      by-frontend x _ (joined.no_room (inr some) is frontend awaits link on_way) stops = absurd (none-back some)
      by-frontend x _ (joined.lost c read s is frontend quiet on_way) stops = of_asking (hungry old.budget c x.mid new.asking s (passed old.budget _ old.asking x.mid x.passed asking))
      by-frontend x _ (joined.taken p quiet takes) stops = by-handler x.message x.left x.came x.answer x.serves (sym stops ∙ premise)

      moved-hungry : old.stopped ≡ None → Moves gives old call result new → WantsMemory gives new
      moved-hungry going (joined.refused e asked is same) = absurd (cc (sym (ap (λ v. v.stopped) same ∙ going) ∙ premise))
      moved-hungry going (joined.at_once v g asked is same) = absurd (cc (sym (ap (λ v. v.stopped) same ∙ going) ∙ premise))
      moved-hungry going (joined.unsent w awaited after c gone read asked s is on_way same) = of_asking (hungry old.budget c old.asking new.asking s asking)
      moved-hungry going (joined.sent x) = by-frontend x x.lost x.takes x.stopped

  pub stopped-hungry : (old new : View Dev) (calls : List FrontendCall) (answers : List FrontendAnswer) → old.asking.script ≡ [] → old.serving.script ≡ []
      → Lockstep gives bit old calls answers new → new.stopped ≡ Some Premise → WantsMemory gives new
  stopped-hungry old new calls answers asking serving (inl (kept, goes_on)) premise = absurd (goes_on premise)
  stopped-hungry old new calls answers asking serving (inr b) premise =
      let (asking', serving') = kept-uncut old b.mid b.before b.kept b.lockstep.each asking serving in
      moved-hungry b.mid (b.lockstep.in_step b.going) new (call_of b.call) _ premise asking' serving' b.going b.moves
