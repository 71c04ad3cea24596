-- One more turn with a session that others share.
use Rattle.std.proofs.Common.{Result, Ok, Err}
use mathlib.Core.Logic.{∥∥₁_map}
use Rattle.vhost_message.specs.declared.error.Error as declared
use Rattle.vhost_message.specs.Header.{Header}
use Rattle.vhost_protocol.specs.FrontendCall.{FrontendCall, Frontend, Value}
use Rattle.vhost_protocol.specs.declared.asked.Awaited.{Awaited}
use Rattle.vhost_link.specs.Law.{Event}
use Rattle.vhost_connection.specs.Talk.{State}
use Rattle.vhost_frontend_core.specs.Taking.{Takes}
use Rattle.vhost_frontend_core.specs.Taking.Takes.{taken, stopped}
use Rattle.vhost_frontend_core.specs.declared.asked.Sent.{Sent}
use Rattle.vhost_frontend_core.specs.declared.internal.FrontendInternal.{FrontendInternal}
use Rattle.vhost_frontend.specs.Turn.{Reached}
use Rattle.vhost_frontend.specs.Turn.Reached.{called, called_with_room}
use Rattle.vhost_frontend.specs.Whole.{Calls, Whole, WholeWithRoom}
use Rattle.vhost_frontend.specs.Whole.Calls.{answered, ended}

-- an answer as a value
abbrev as_value : {A H : Type 0} → (A → Value H) → Result A declared.Error → Result (Value H) declared.Error
as_value value (Ok a) = Ok (value a)
as_value value (Err e) = Err e

module _ {L H A : Type 0} {event : L → Event H → L → Type 0} {call : FrontendCall H} {value : A → Value H} where
  takes-value : {asked : Awaited} {sent : Header} {old new : State L H} {f f' : Frontend} (result : Result A declared.Error) → Takes event call value asked sent old f result new f' → Takes event call (λ v. v) asked sent old f (as_value value result) new f'
  takes-value (Ok a) (taken reads) = taken reads
  takes-value (Err e) (taken reads) = taken reads
  takes-value (Err e) (stopped f) = stopped f

  calls-value : {asks : FrontendInternal L H → Result Sent declared.Error → FrontendInternal L H → Type 0} {old new : FrontendInternal L H} (result : Result A declared.Error) → Calls event call asks value old result new
      → Calls event call asks (λ v. v) old (as_value value result) new
  calls-value (Err e) (ended asks) = ended asks
  calls-value result (answered asks takes) = answered asks (takes-value result takes)

  -- a whole call
  pub turned : {old new : FrontendInternal L H} {result : Result A declared.Error} → ∥ Reached event old ∥₁ → Whole event call value old result new → ∥ Reached event new ∥₁
  turned {result = result} reached went = ∥∥₁_map reached (λ r. called call r (calls-value result went))

  -- the same of a call that makes room for its reply
  pub turned_with_room : {old new : FrontendInternal L H} {result : Result A declared.Error} → ∥ Reached event old ∥₁ → WholeWithRoom event call value old result new → ∥ Reached event new ∥₁
  turned_with_room {result = result} reached went = ∥∥₁_map reached (λ r. called_with_room call r (calls-value result went))
