-- The two halves of a frontend's calls.
use Rattle.std.specs.Prelude.{◌≡◌, Bool, true, false, Result, ⊤}
use Rattle.vhost_message.specs.declared.error.Error as declared
use Rattle.vhost_message.specs.MsgHeader.{fields_of}
use Rattle.vhost_protocol.specs.FrontendCall.{FrontendCall, SetMemTable, GetConfig, GetShmemConfig, Value, Nothing, Frontend}
use Rattle.vhost_protocol.specs.Ask.{ask}
use Rattle.vhost_protocol.specs.Session.{is_listen}
use Rattle.vhost_protocol.specs.declared.asked.Awaited.{Awaited}
use Rattle.vhost_link.specs.Law.{Event}
use Rattle.vhost_frontend_core.specs.declared.asked.Sent.{Sent}
use Rattle.vhost_frontend_core.specs.declared.internal.FrontendInternal.{FrontendInternal}
use Rattle.vhost_frontend_core.specs.Asking.{Asks, AsksWithRoom}
use Rattle.vhost_frontend_core.specs.Taking.{Takes, IsAck}
use Rattle.vhost_frontend_core.specs.Frontend.{endpoint_of, session_of, awaits}

-- whether a call makes room for its answer before it is sent: for bytes of the configuration space, for regions of shared memory, or, while postcopy listens, for where the regions of a table are mapped
abbrev pub makes_room : {H : Type 0} → Frontend → FrontendCall H → Bool
makes_room f (SetMemTable infos) = is_listen f.postcopy
makes_room f (GetConfig offset size flags buffer) = true
makes_room f GetShmemConfig = true
makes_room f _ = false

module _ {L H : Type 0} (event : L → Event H → L → Type 0) (call : FrontendCall H) where
  -- the half of a call that asks
  abbrev pub AsksHalf : FrontendInternal L H → Result Sent declared.Error → FrontendInternal L H → Type 0
  AsksHalf old result new = Asks event (ask (session_of old) call) (endpoint_of old) (session_of old) (awaits old) result (endpoint_of new) (session_of new) (awaits new)

  -- the same of a call that makes room for its reply
  abbrev pub AsksHalfWithRoom : FrontendInternal L H → Result Sent declared.Error → FrontendInternal L H → Type 0
  AsksHalfWithRoom old result new = AsksWithRoom event (ask (session_of old) call) (endpoint_of old) (session_of old) (awaits old) result (endpoint_of new) (session_of new) (awaits new)

  -- the same of any call: it makes room, or not
  pub record AsksAny (old : FrontendInternal L H) (result : Result Sent declared.Error) (new : FrontendInternal L H) : Type 0 where
    pub with_room : AsksHalfWithRoom old result new
    pub without : makes_room (session_of old) call ≡ false → AsksHalf old result new

  -- the half that takes its answer, which is shown as this value
  abbrev pub TakesHalf : {A : Type 0} → (A → Value H) → Awaited → Sent → FrontendInternal L H → Result A declared.Error → FrontendInternal L H → Type 0
  TakesHalf value asked sent old result new = Takes event call value asked (fields_of sent.request) (endpoint_of old) (session_of old) result (endpoint_of new) (session_of new)

  -- the same of a call that is only acknowledged
  abbrev pub TakesAck : Sent → FrontendInternal L H → Result ⊤ declared.Error → FrontendInternal L H → Type 0
  TakesAck sent old result new = IsAck sent.awaited → TakesHalf (λ _. Nothing) sent.awaited sent old result new
