-- The half of any call that takes, from that of its answer's form.
use Rattle.std.proofs.Common.{◌≡◌, ◌⊎◌, inl, inr, Bool, true, false, List, Some, Result, Ok, Err, refl, sym, subst}
use Rattle.vhost_message.specs.declared.error.Error as declared
use Rattle.vhost_message.specs.Header.{Header}
use Rattle.vhost_message.specs.MsgHeader.{fields_of}
use Rattle.vhost_protocol.specs.FrontendCall.{FrontendCall, Frontend, Info, Value, GetFeatures, GetProtocolFeatures, GetQueueNum, SetMemTable, SetLogBase, GetVringBase, GetConfig, GetSharedObject, GetInflightFd, GetMaxMemSlots, AddMemRegion, GetShmemConfig, SetDeviceStateFd, CheckDeviceState, PostcopyAdvise, PostcopyListen, PostcopyEnd, PostcopyAckMemRegions}
use Rattle.vhost_protocol.specs.declared.asked.Awaited.{Awaited}
use Rattle.vhost_protocol.specs.declared.asked.Awaited.TheVariants.{Nobody, Reply}
use Rattle.vhost_protocol.specs.declared.asked.Shape.{Shape}
use Rattle.vhost_protocol.specs.declared.asked.Shape.TheVariants as shape
use Rattle.vhost_link.specs.Law.{Event}
use Rattle.vhost_connection.specs.Talk.{State}
use Rattle.vhost_frontend_core.specs.Awaiting.{IsAcked}
use Rattle.vhost_frontend_core.specs.Frontend.{endpoint_of, session_of, awaits}
use Rattle.vhost_frontend_core.specs.Kept.{IsKeptFor}
use Rattle.vhost_frontend_core.specs.Kinds.{kind_of, Plain}
use Rattle.vhost_frontend_core.specs.Taking.{IsAck, Takes, taken, stopped}
use Rattle.vhost_frontend_core.specs.Values.{outcome_of, shown}
use Rattle.vhost_frontend_core.specs.ValueHalves.{TakesValue}
use Rattle.vhost_frontend_core.specs.declared.asked.Kept.{Kept}
use Rattle.vhost_frontend_core.specs.declared.asked.Sent.{Sent}
use Rattle.vhost_frontend_core.specs.declared.internal.FrontendInternal.{FrontendInternal}
use Rattle.vhost_frontend_core.specs.declared.answer.Answer.{Answer}
use Rattle.vhost_frontend_core.proofs.Awaiting.{replies, awaits-reply}

module _ {L H : Type 0} {event : L → Event H → L → Type 0} where
  -- an answer, as a value
  pub takes-value : {A : Type 0} {call : FrontendCall H} {value : A → Value H} {asked : Awaited} {sent : Header} {old new : State L H} {f f' : Frontend} (result : Result A declared.Error) → Takes event call value asked sent old f result new f'
      → Takes event call (λ v. v) asked sent old f (shown value result) new f'
  takes-value (Ok a) (taken reads) = taken reads
  takes-value (Err e) (taken reads) = taken reads
  takes-value (Err e) (stopped f) = stopped f

  -- the same, where it is that
  pub took : {A : Type 0} {call : FrontendCall H} {value : A → Value H} {asked : Awaited} {sent : Header} {old new : State L H} {f f' : Frontend} {result : Result A declared.Error} {outcome : Result (Value H) declared.Error} → outcome ≡ shown value result
      → Takes event call value asked sent old f result new f' → Takes event call (λ v. v) asked sent old f outcome new f'
  took {call = call} {asked = asked} {sent} {old} {new} {f} {f'} {result} is t = subst (λ o. Takes event call (λ v. v) asked sent old f o new f') (sym is) (takes-value result t)

  -- and what is awaited has another name
  pub took-reply : {A : Type 0} {call : FrontendCall H} {value : A → Value H} {asked awaited : Awaited} {sent : Header} {old new : State L H} {f f' : Frontend} {result : Result A declared.Error} {outcome : Result (Value H) declared.Error} → awaited ≡ asked
      → outcome ≡ shown value result → Takes event call value asked sent old f result new f' → Takes event call (λ v. v) awaited sent old f outcome new f'
  took-reply {call = call} {sent = sent} {old} {new} {f} {f'} {outcome = outcome} awaits is t = subst (λ a. Takes event call (λ v. v) a sent old f outcome new f') (sym awaits) (took is t)

  -- a call by another name
  pub renamed : {call call' : FrontendCall H} {sent : Sent} {old new : FrontendInternal L H} {answer : Answer H} → call ≡ call' → TakesValue event call' sent old answer new → TakesValue event call sent old answer new
  renamed {sent = sent} {old} {new} {answer} is t = subst (λ x. TakesValue event x sent old answer new) (sym is) t

  -- a reply was taken, of a call that always has one
  pub replied : {call call' : FrontendCall H} {A : Type 0} {value : A → Value H} {shape : Shape} {result : Result A declared.Error} {sent : Sent} {old new : FrontendInternal L H} {answer : Answer H} → call ≡ call' → replies call' ≡ Some shape
      → outcome_of answer ≡ shown value result → awaits new ≡ Nobody
      → Takes event call' value (Reply shape) (fields_of sent.request) (endpoint_of old) (session_of old) result (endpoint_of new) (session_of new) → TakesValue event call sent old answer new
  replied {call' = call'} {shape = shape} {sent = sent} is replying same nobody takes = renamed is (record { taken = λ may kept. took-reply (awaits-reply call' sent.awaited shape replying may) same takes; quiet = nobody })

-- one of two
pub took-either : {P Q R : Type 0} → P ⊎ Q → (P → R) → (Q → R) → R
took-either (inl p) one other = one p
took-either (inr q) one other = other q

-- what is kept of a table whose reply is awaited
pub kept-reply : {H : Type 0} (infos : List (Info H)) (a : Awaited) (k : Kept) → a ≡ Reply shape.Memory → IsKeptFor (SetMemTable infos) a k → IsKeptFor (SetMemTable infos) (Reply shape.Memory) k
kept-reply infos a k is p = subst (λ x. IsKeptFor (SetMemTable infos) x k) is p

-- which calls are only acknowledged, and leave the session as it is
abbrev pub is_acked : {H : Type 0} → FrontendCall H → Bool
is_acked GetFeatures = false
is_acked GetProtocolFeatures = false
is_acked GetQueueNum = false
is_acked (SetMemTable infos) = false
is_acked (SetLogBase base region) = false
is_acked (GetVringBase i) = false
is_acked (GetConfig offset size flags buffer) = false
is_acked (GetSharedObject name) = false
is_acked (GetInflightFd area) = false
is_acked GetMaxMemSlots = false
is_acked (AddMemRegion info) = false
is_acked GetShmemConfig = false
is_acked (SetDeviceStateFd t h) = false
is_acked CheckDeviceState = false
is_acked PostcopyAdvise = false
is_acked PostcopyListen = false
is_acked PostcopyEnd = false
is_acked _ = true

nobody-acked : (a : Awaited) → a ≡ Nobody → IsAck a
nobody-acked a e = subst IsAck (sym e) tt

-- so they show nothing
pub acked : {H : Type 0} (call : FrontendCall H) → is_acked call ≡ true → IsAcked call × (kind_of call ≡ Plain)
acked GetFeatures e = cc e
acked GetProtocolFeatures e = cc e
acked GetQueueNum e = cc e
acked (SetMemTable infos) e = cc e
acked (SetLogBase base region) e = cc e
acked (GetVringBase i) e = cc e
acked (GetConfig offset size flags buffer) e = cc e
acked (GetSharedObject name) e = cc e
acked (GetInflightFd area) e = cc e
acked GetMaxMemSlots e = cc e
acked (AddMemRegion info) e = cc e
acked GetShmemConfig e = cc e
acked (SetDeviceStateFd t h) e = cc e
acked CheckDeviceState e = cc e
acked PostcopyAdvise e = cc e
acked PostcopyListen e = cc e
acked PostcopyEnd e = cc e
acked (PostcopyAckMemRegions r) e = (record { awaits = nobody-acked; shows = refl; keeps = λ f. refl }, refl)
acked _ e = (record { awaits = λ a may. may; shows = refl; keeps = λ f. refl }, refl)
