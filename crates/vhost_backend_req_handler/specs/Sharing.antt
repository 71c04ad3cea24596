-- A session with a device that others share.
use Rattle.std.specs.Prelude.{Result, ⊤}
use Rattle.vhost_message.specs.declared.cause.IoCause.{IoCause}
use Rattle.vhost_message.specs.declared.error.Error as declared
use Rattle.vhost_protocol.specs.DeviceCall.{Call, Answer}
use Rattle.vhost_link.specs.Law.{Event}
use Rattle.vhost_link.specs.declared.handle.Kind.{Kind}
use Rattle.vhost_backend_req.specs.declared.backend.Backend.{Backend}
use Rattle.vhost_gpu_backend_req.specs.declared.backend.GpuBackend.{GpuBackend}
use Rattle.vhost_backend_req_handler.specs.declared.handler.BackendReqHandler.{BackendReqHandler}
use Rattle.vhost_backend_req_handler.specs.declared.session_core.SessionCore.{SessionCore}
use Rattle.vhost_backend_req_handler.specs.Core.{endpoint_of, session_in}
use Rattle.vhost_backend_req_handler.specs.Opening.{OpensAsBackend, OpensAsGpu}
use Rattle.vhost_backend_req_handler.specs.Serving.{CallsOnce}

-- any answer: of such a device only its type is known
abbrev pub any_answer : {H B G : Type 0} → ⊤ → (c : Call H B G) → Answer c → ⊤ → Type 0
any_answer d c a d' = ⊤

-- one call of such a session
abbrev pub ServesShared : {L H : Type 0} → (L → Event H → L → Type 0) → (L → H → Result L IoCause → Type 0) → (H → Result Kind IoCause → Type 0)
    → SessionCore L H → Result ⊤ declared.Error → SessionCore L H → Type 0
ServesShared {L} {H} event opens kinds old result new =
    CallsOnce {B = Backend L H} {G = GpuBackend L H} event any_answer (λ h o. OpensAsBackend opens kinds (endpoint_of old).budget h o) (λ h o. OpensAsGpu opens kinds (endpoint_of old).budget h o)
    (endpoint_of old) (session_in old) tt result (endpoint_of new) (session_in new) tt

-- the session of a handler
abbrev pub core_of : {L S H : Type 0} → BackendReqHandler L S H → SessionCore L H
core_of h = h.core
