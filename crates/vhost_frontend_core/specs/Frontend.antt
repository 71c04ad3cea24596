-- A frontend's side of a connection, as contracts see it.
use Rattle.std.specs.Prelude.{◌≡◌, None}
use Rattle.vhost_message.specs.declared.heard_req.HeardReq.{HeardReq}
use Rattle.vhost_message.specs.declared.header.VhostUserMsgHeader.{VhostUserMsgHeader}
use Rattle.vhost_protocol.specs.FrontendCall.{Frontend}
use Rattle.vhost_protocol.specs.declared.asked.Awaited.{Awaited}
use Rattle.vhost_protocol.specs.declared.asked.Awaited.TheVariants.{Nobody}
use Rattle.vhost_connection.specs.declared.endpoint.Endpoint.{Endpoint}
use Rattle.vhost_connection.specs.Talk.{State}
use Rattle.vhost_connection.specs.State.{state}
use Rattle.vhost_frontend_core.specs.Session.{frontend_of}
use Rattle.vhost_frontend_core.specs.declared.asked.Sent.{Sent}
use Rattle.vhost_frontend_core.specs.declared.internal.FrontendInternal.{FrontendInternal}

-- its endpoint
abbrev pub endpoint_of : {L H : Type 0} → FrontendInternal L H → State L H
endpoint_of f = state f.endpoint

-- what it remembers
abbrev pub session_of : {L H : Type 0} → FrontendInternal L H → Frontend
session_of f = frontend_of f.session

-- what it awaits
abbrev pub awaits : {L H : Type 0} → FrontendInternal L H → Awaited
awaits f = f.awaited

-- it may be asked: nothing is awaited, unless the endpoint is broken
abbrev pub MayAsk : {L H : Type 0} → FrontendInternal L H → Type 0
MayAsk f = (endpoint_of f).broken ≡ None → awaits f ≡ Nobody

-- the answer of this request is what it awaits
abbrev pub IsAwaited : {L H : Type 0} → Sent → FrontendInternal L H → Type 0
IsAwaited sent f = sent.awaited ≡ awaits f

-- the same frontend over another endpoint
abbrev pub with_endpoint : {L H : Type 0} → FrontendInternal L H → Endpoint (VhostUserMsgHeader HeardReq) L H → FrontendInternal L H
with_endpoint f endpoint = record f { endpoint = endpoint }
