-- A frontend's call of a session that many threads share.
use Rattle.std.specs.Prelude.{◌≡◌, ℕ, Result, Ok, Err}
use Rattle.vhost_message.specs.declared.error.Error as declared
use Rattle.vhost_backend.specs.declared.error.Error as device
use Rattle.vhost_backend.specs.declared.error.Error.TheVariants.{VhostUserProtocol}
use Rattle.vhost_protocol.specs.FrontendCall.{FrontendCall, Value, new_frontend}
use Rattle.vhost_protocol.specs.declared.asked.Awaited.TheVariants.{Nobody}
use Rattle.vhost_protocol.specs.declared.profile.Profile.{Profile}
use Rattle.vhost_link.specs.Law.{Event}
use Rattle.vhost_connection.specs.State.{fresh}
use Rattle.vhost_frontend_core.specs.Frontend.{awaits, endpoint_of, session_of}
use Rattle.vhost_frontend_core.specs.declared.internal.FrontendInternal.{FrontendInternal}
use Rattle.vhost_frontend.specs.Whole.{Whole, WholeWithRoom}

-- what the protocol answered, as the answer of a vhost device
abbrev pub within : {A : Type 0} → Result A declared.Error → Result A device.Error
within (Ok a) = Ok a
within (Err e) = Err (VhostUserProtocol e)

module _ {L H : Type 0} (event : L → Event H → L → Type 0) where
  -- The sessions that turns lead to: a new one, and what a setting or a whole call, whose answer is a value, leaves of another.
  pub data Reached : FrontendInternal L H → Type 0 where
    new : {s : FrontendInternal L H} (link : L) (queues budget : ℕ) → endpoint_of s ≡ fresh link budget → session_of s ≡ new_frontend queues → Reached s
    flagged : {s t : FrontendInternal L H} (flags : ℕ) → Reached s → endpoint_of t ≡ endpoint_of s → session_of t ≡ record (session_of s) { header_flags = flags } → Reached t
    profiled : {s t : FrontendInternal L H} (profile : Profile) → Reached s → endpoint_of t ≡ endpoint_of s → session_of t ≡ record (session_of s) { profile = profile } → Reached t
    called : {s t : FrontendInternal L H} (call : FrontendCall H) {result : Result (Value H) declared.Error} → Reached s → Whole event call (λ v. v) s result t → Reached t
    called_with_room : {s t : FrontendInternal L H} (call : FrontendCall H) {result : Result (Value H) declared.Error} → Reached s → WholeWithRoom event call (λ v. v) s result t → Reached t

  -- In one turn with the session a call was whole: it found a session that awaited nothing, and to which other turns led, left one that awaits nothing, and its answer is the result.
  pub record Turn {A : Type 0} (whole : FrontendInternal L H → Result A declared.Error → FrontendInternal L H → Type 0) (result : Result A device.Error) : Type 0 where
    pub old : FrontendInternal L H
    pub new : FrontendInternal L H
    pub answer : Result A declared.Error
    pub before : awaits old ≡ Nobody
    pub reached : ∥ Reached old ∥₁
    pub went : whole old answer new
    pub after : awaits new ≡ Nobody
    pub answers : result ≡ within answer
