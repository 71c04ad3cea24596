-- What a caller learns of an answer from a frontend that many share.
use Rattle.std.specs.Prelude.{◌≡◌, None, Some, Result, Ok}
use Rattle.vhost_message.specs.declared.cause.IoCause.{IoCause}
use Rattle.vhost_message.specs.declared.error.Error as declared
use Rattle.vhost_message.specs.MsgHeader.{fields_of}
use Rattle.vhost_message.specs.declared.heard_req.HeardReq.{HeardReq}
use Rattle.vhost_backend.specs.declared.error.Error as device
use Rattle.vhost_protocol.specs.AnswerTable.{answered}
use Rattle.vhost_protocol.specs.Ask.{Sends, ask}
use Rattle.vhost_protocol.specs.declared.asked.Awaited.{Awaited}
use Rattle.vhost_protocol.specs.declared.asked.Awaited.TheVariants.{Nobody}
use Rattle.vhost_protocol.specs.FrontendCall.{FrontendCall, Value}
use Rattle.vhost_protocol.specs.Written.{Written}
use Rattle.vhost_link.specs.Law.{Event, Refused}
use Rattle.vhost_frontend_core.specs.Asking.{Goes}
use Rattle.vhost_frontend_core.specs.Frontend.{endpoint_of, session_of, awaits}
use Rattle.vhost_frontend_core.specs.Taking.{Reads}
use Rattle.vhost_frontend_core.specs.declared.asked.Sent.{Sent}
use Rattle.vhost_frontend_core.specs.declared.internal.FrontendInternal.{FrontendInternal}
use Rattle.vhost_frontend.specs.Turn.{Turn}

-- The value is the answer to the caller's own request: it was asked of a session that awaited nothing, its message went out whole, and right behind it, before anybody else asked, the value was read as its answer.
pub record OwnAnswer {L H : Type 0} (event : L → Event H → L → Type 0) (call : FrontendCall H) (value : Value H) : Type 0 where
  pub old : FrontendInternal L H
  pub middle : FrontendInternal L H
  pub new : FrontendInternal L H
  pub message : Written HeardReq H
  pub awaited : Awaited
  pub sent : Sent
  pub before : awaits old ≡ Nobody
  pub asked : ask (session_of old) call ≡ Sends message awaited (session_of middle)
  pub went : Goes event message awaited (endpoint_of old) sent (endpoint_of middle)
  pub read : Reads event call sent.awaited (fields_of sent.request) (session_of middle) (endpoint_of middle) (Some (answered (session_of new) (Ok value))) (endpoint_of new)
  pub after : awaits new ≡ Nobody

-- a link of this law has failed
abbrev pub HasFailed : {L H : Type 0} → (L → Event H → L → Type 0) → Type 0
HasFailed {L} event = (before : L) × (after : L) × (c : IoCause) × event before (Refused c) after

-- In one turn a call was whole, and the session that it found was not poisoned.
abbrev pub FindsSound : {L H A : Type 0} → (L → Event H → L → Type 0) → (FrontendInternal L H → Result A declared.Error → FrontendInternal L H → Type 0) → Result A device.Error → Type 0
FindsSound event whole result = (turn : Turn event whole result) × ((endpoint_of turn.old).broken ≡ None)
