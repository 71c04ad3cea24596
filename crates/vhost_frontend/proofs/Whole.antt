-- What both halves give of a call as a whole.
use Rattle.std.proofs.Common.{◌≡◌, Bool, true, false, Result, Ok, Err, Some, refl, sym, ap, subst, ◌∙◌}
use Rattle.vhost_message.specs.declared.error.Error as declared
use Rattle.vhost_message.specs.Header.{Header}
use Rattle.vhost_message.specs.MsgHeader.{fields_of}
use Rattle.vhost_protocol.specs.Ask.{Asked}
use Rattle.vhost_protocol.specs.FrontendCall.{FrontendCall, SetMemTable, GetConfig, GetShmemConfig, Frontend, Value}
use Rattle.vhost_protocol.specs.declared.asked.Awaited.{Awaited}
use Rattle.vhost_protocol.specs.declared.asked.Awaited.TheVariants.{Nobody, Reply}
use Rattle.vhost_protocol.specs.declared.asked.Shape.{Shape}
use Rattle.vhost_link.specs.Law.{Event}
use Rattle.vhost_connection.specs.Talk.{State}
use Rattle.vhost_frontend_core.specs.declared.asked.Sent.{Sent}
use Rattle.vhost_frontend_core.specs.Asking.{Asks}
use Rattle.vhost_frontend_core.specs.Frontend.{endpoint_of, session_of}
use Rattle.vhost_frontend_core.specs.Halves.{AsksHalf, AsksAny, makes_room}
use Rattle.vhost_frontend_core.specs.Kinds.{Kind, kind_of, Bases, Bytes, Regions}
use Rattle.vhost_frontend_core.specs.Taking.{Takes, taken, stopped}
use Rattle.vhost_frontend_core.specs.Values.{shown}
use Rattle.vhost_frontend_core.specs.declared.internal.FrontendInternal.{FrontendInternal}
use Rattle.vhost_frontend_core.proofs.Awaiting.{replies, awaits-reply, sent-awaits, still-awaits, may-await}
use Rattle.vhost_frontend.specs.Whole.{Calls, Whole, WholeWithRoom, WholeCall, awaited_of}
use Rattle.vhost_frontend.specs.Whole.Calls.{ended, answered}

-- a form of answers for which no call makes room
abbrev makes_none : Kind → Bool
makes_none Bases = false
makes_none Bytes = false
makes_none Regions = false
makes_none _ = true

makes-none : {H : Type 0} (f : Frontend) (call : FrontendCall H) → makes_none (kind_of call) ≡ true → makes_room f call ≡ false
makes-none f (SetMemTable infos) e = cc e
makes-none f (GetConfig offset size flags buffer) e = cc e
makes-none f GetShmemConfig e = cc e
makes-none f _ e = refl

module _ {L H : Type 0} {event : L → Event H → L → Type 0} where
  -- what was asked of a frontend that awaited nothing is what it awaits
  pub asked_awaits : {asked : Asked H} {old new : State L H} {f f' : Frontend} {before after : Awaited} {result : Result Sent declared.Error} → Asks event asked old f before result new f' after → before ≡ Nobody → after ≡ awaited_of result
  asked_awaits {result = Ok sent} asks nobody = sym (sent-awaits asks)
  asked_awaits {result = Err e} asks nobody = still-awaits asks ∙ nobody

  -- a call that could not ask is whole
  pub unasked : {call : FrontendCall H} {A : Type 0} {asks : FrontendInternal L H → Result Sent declared.Error → FrontendInternal L H → Type 0} {value : A → Value H} {old new : FrontendInternal L H} {e : declared.Error}
      → asks old (Err e) new → Calls event call asks value old (Err e) new
  unasked x = ended x

  -- so is one whose reply was taken
  pub replied : {call : FrontendCall H} {A : Type 0} {value : A → Value H} {old new : FrontendInternal L H} {shape : Shape} {sent : Sent} (middle : FrontendInternal L H) {result : Result A declared.Error} → replies call ≡ Some shape → AsksHalf event call old (Ok sent) middle
      → Takes event call value (Reply shape) (fields_of sent.request) (endpoint_of middle) (session_of middle) result (endpoint_of new) (session_of new) → Calls event call (AsksHalf event call) value old result new
  replied {call} {value = value} {new = new} {sent = sent} middle {result = result} is asks takes =
      answered asks (subst (λ a. Takes event call value a (fields_of sent.request) (endpoint_of middle) (session_of middle) result (endpoint_of new) (session_of new)) (sym (awaits-reply call sent.awaited _ is (may-await call asks))) takes)

module _ {L H : Type 0} {event : L → Event H → L → Type 0} where
  takes-typed : {A : Type 0} {call : FrontendCall H} {value : A → Value H} {asked : Awaited} {sent : Header} {old new : State L H} {f f' : Frontend} (result : Result A declared.Error) → Takes event call (λ v. v) asked sent old f (shown value result) new f'
      → Takes event call value asked sent old f result new f'
  takes-typed (Ok a) (taken reads) = taken reads
  takes-typed (Err e) (taken reads) = taken reads
  takes-typed (Err e) (stopped fails) = stopped fails

  -- the answer of a whole call, by its form
  typed : {A : Type 0} {call : FrontendCall H} {asks : FrontendInternal L H → Result Sent declared.Error → FrontendInternal L H → Type 0} {value : A → Value H} {old new : FrontendInternal L H} (result : Result A declared.Error) → Calls event call asks (λ v. v) old (shown value result) new
      → Calls event call asks value old result new
  typed (Err e) (ended asks) = ended asks
  typed (Err e) (answered asks takes) = answered asks (takes-typed (Err e) takes)
  typed (Ok a) (answered asks takes) = answered asks (takes-typed (Ok a) takes)

  module _ {A : Type 0} {call : FrontendCall H} {value : A → Value H} {old new : FrontendInternal L H} where
    without : {result : Result A declared.Error} → makes_room (session_of old) call ≡ false → Calls event call (AsksAny event call) value old result new → Whole event call value old result new
    without none (ended asks) = ended (asks.without none)
    without none (answered asks takes) = answered (asks.without none) takes

    with_room : {result : Result A declared.Error} → Calls event call (AsksAny event call) value old result new → WholeWithRoom event call value old result new
    with_room (ended asks) = ended asks.with_room
    with_room (answered asks takes) = answered asks.with_room takes

    -- of a call that makes no room
    pub as-whole : {kind : Kind} {outcome : Result (Value H) declared.Error} (result : Result A declared.Error) → kind_of call ≡ kind → makes_none kind ≡ true → outcome ≡ shown value result → WholeCall event call old outcome new → Whole event call value old result new
    as-whole result is none same went = without (makes-none (session_of old) call (ap makes_none is ∙ none)) (typed result (subst (λ o. WholeCall event call old o new) same went))

    -- of one that may
    pub as-whole-with-room : {outcome : Result (Value H) declared.Error} (result : Result A declared.Error) → outcome ≡ shown value result → WholeCall event call old outcome new → WholeWithRoom event call value old result new
    as-whole-with-room result same went = with_room (typed result (subst (λ o. WholeCall event call old o new) same went))
