-- A frontend's call as a whole.
use Rattle.std.specs.Prelude.{Result, Ok, Err}
use Rattle.vhost_message.specs.declared.error.Error as declared
use Rattle.vhost_protocol.specs.FrontendCall.{FrontendCall, Value}
use Rattle.vhost_protocol.specs.declared.asked.Awaited.{Awaited}
use Rattle.vhost_protocol.specs.declared.asked.Awaited.TheVariants.{Nobody}
use Rattle.vhost_link.specs.Law.{Event}
use Rattle.vhost_frontend_core.specs.declared.asked.Sent.{Sent}
use Rattle.vhost_frontend_core.specs.declared.internal.FrontendInternal.{FrontendInternal}
use Rattle.vhost_frontend_core.specs.Halves.{AsksHalf, AsksHalfWithRoom, AsksAny, TakesHalf}

-- what a frontend awaits that awaited nothing, and was asked
abbrev pub awaited_of : Result Sent declared.Error → Awaited
awaited_of (Ok sent) = sent.awaited
awaited_of (Err e) = Nobody

module _ {L H : Type 0} (event : L → Event H → L → Type 0) (call : FrontendCall H) where
  -- It ended where it asked; or its message went out, and then its answer was taken, which is shown as this value.
  pub data Calls {A : Type 0} (asks : FrontendInternal L H → Result Sent declared.Error → FrontendInternal L H → Type 0) (value : A → Value H) (old : FrontendInternal L H)
      : Result A declared.Error → FrontendInternal L H → Type 0 where
    ended : {e : declared.Error} {new : FrontendInternal L H} → asks old (Err e) new → Calls asks value old (Err e) new
    answered : {sent : Sent} {middle new : FrontendInternal L H} {result : Result A declared.Error} → asks old (Ok sent) middle → TakesHalf event call value sent.awaited sent middle result new
        → Calls asks value old result new

  -- a call
  abbrev pub Whole : {A : Type 0} → (A → Value H) → FrontendInternal L H → Result A declared.Error → FrontendInternal L H → Type 0
  Whole value old result new = Calls (AsksHalf event call) value old result new

  -- the same of a call that makes room for its reply
  abbrev pub WholeWithRoom : {A : Type 0} → (A → Value H) → FrontendInternal L H → Result A declared.Error → FrontendInternal L H → Type 0
  WholeWithRoom value old result new = Calls (AsksHalfWithRoom event call) value old result new

  -- the same of any call, whose answer is a value
  abbrev pub WholeCall : FrontendInternal L H → Result (Value H) declared.Error → FrontendInternal L H → Type 0
  WholeCall old result new = Calls (AsksAny event call) (λ v. v) old result new
