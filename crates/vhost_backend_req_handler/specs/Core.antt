-- A handler's side of a connection, as contracts see it.
use Rattle.std.specs.Prelude.{◌≡◌, Option, Result, Vec, ⊤}
use Rattle.std.specs.Global.{Global}
use Rattle.vhost_message.specs.declared.cause.IoCause.{IoCause}
use Rattle.vhost_message.specs.declared.error.Error as declared
use Rattle.vhost_message.specs.declared.heard_req.HeardReq.{HeardReq}
use Rattle.vhost_message.specs.declared.header.VhostUserMsgHeader.{VhostUserMsgHeader}
use Rattle.vhost_protocol.specs.DeviceCall.{Call, Answer}
use Rattle.vhost_protocol.specs.Row.{row_of}
use Rattle.vhost_protocol.specs.Session.{Session}
use Rattle.vhost_protocol.specs.Split.{Message}
use Rattle.vhost_link.specs.Law.{Event}
use Rattle.vhost_link.specs.declared.handle.Kind.{Kind}
use Rattle.vhost_connection.specs.declared.endpoint.Endpoint.{Endpoint}
use Rattle.vhost_connection.specs.State.{state}
use Rattle.vhost_connection.specs.Talk.{State}
use Rattle.vhost_connection.specs.Calls.{HandsOver}
use Rattle.vhost_connection.specs.declared.request.Request.{Request}
use Rattle.vhost_backend_req_handler_core.specs.Session.{session_of}
use Rattle.vhost_backend_req.specs.declared.backend.Backend.{Backend}
use Rattle.vhost_gpu_backend_req.specs.declared.backend.GpuBackend.{GpuBackend}
use Rattle.vhost_backend_req_handler.specs.declared.session_core.SessionCore.{SessionCore}
use Rattle.vhost_backend_req_handler.specs.Opening.{OpensAsBackend, OpensAsGpu}
use Rattle.vhost_backend_req_handler.specs.Serving.{Answers}
use Rattle.vhost_connection.specs.Requests.{Reads, IsReady}

-- its endpoint
abbrev pub endpoint_of : {L H : Type 0} → SessionCore L H → State L H
endpoint_of c = state c.endpoint

-- its session
abbrev pub session_in : {L H : Type 0} → SessionCore L H → Session
session_in c = session_of c.service.session

-- a session over another endpoint
abbrev pub with_endpoint : {L H : Type 0} → SessionCore L H → Endpoint (VhostUserMsgHeader HeardReq) L H → SessionCore L H
with_endpoint c endpoint = record c { endpoint = endpoint }

-- A request is answered by its row, of the message that it is with these handles, over an endpoint that can reply.
abbrev pub MeetsRowWith : {L H Dev : Type 0} → (event : L → Event H → L → Type 0) (opens : L → H → Result L IoCause → Type 0) (kinds : H → Result Kind IoCause → Type 0)
    (gives : Dev → (c : Call H (Backend L H) (GpuBackend L H)) → Answer c → Dev → Type 0)
    → HeardReq → SessionCore L H → Dev → Request HeardReq → Option (Vec H Global) → Result ⊤ declared.Error → SessionCore L H → Dev → Type 0
MeetsRowWith {H = H} event opens kinds gives r old d request handles result new d' = (m : Message HeardReq H) → Reads old.body.value request m → HandsOver handles m.handles → request.code ≡ r → IsReady (endpoint_of old)
    → Answers event gives (λ h o. OpensAsBackend opens kinds (endpoint_of old).budget h o) (λ h o. OpensAsGpu opens kinds (endpoint_of old).budget h o) m (row_of r (session_in old) m) (endpoint_of old) (session_in old) d result (endpoint_of new) (session_in new) d'
