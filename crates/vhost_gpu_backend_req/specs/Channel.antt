-- The channel to a display, as contracts see it.
use Rattle.std.specs.Prelude.{ℕ, ℤ, Option, None}
use Rattle.vhost_connection.specs.State.{state, fresh}
use Rattle.vhost_connection.specs.declared.endpoint.Endpoint.{Endpoint}
use Rattle.vhost_gpu_message.specs.declared.header.VhostUserGpuMsgHeader.{VhostUserGpuMsgHeader}
use Rattle.vhost_gpu_message.specs.declared.gpu_backend_req.GpuBackendReq.{GpuBackendReq}
use Rattle.vhost_connection.specs.Talk.{State}
use Rattle.vhost_gpu_backend_req.specs.declared.internal.BackendInternal.{BackendInternal}

-- its endpoint, and the number of the error with which it was marked as failed
pub record Channel (L H : Type 0) : Type 0 where
  pub endpoint : State L H
  pub failed : Option ℤ

abbrev pub channel : {L H : Type 0} → BackendInternal L H → Channel L H
channel b = record { endpoint = state b.endpoint; failed = b.failed }

-- a channel that has not sent or received yet
abbrev pub opened : {L H : Type 0} → L → ℕ → Channel L H
opened link budget = record { endpoint = fresh link budget; failed = None }

-- the channel over another endpoint
abbrev pub with_endpoint : {L H : Type 0} → BackendInternal L H → Endpoint (VhostUserGpuMsgHeader GpuBackendReq) L H → BackendInternal L H
with_endpoint b endpoint = record b { endpoint = endpoint }
