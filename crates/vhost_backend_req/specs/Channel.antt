-- The channel from a device to its frontend, as contracts see it.
use Rattle.std.specs.Prelude.{ℕ, ℤ, Bool, false, Option, None}
use Rattle.vhost_connection.specs.State.{state, fresh}
use Rattle.vhost_connection.specs.Talk.{State}
use Rattle.vhost_connection.specs.declared.endpoint.Endpoint.{Endpoint}
use Rattle.vhost_message.specs.declared.header.VhostUserMsgHeader.{VhostUserMsgHeader}
use Rattle.vhost_message.specs.declared.backend_req.BackendReq.{BackendReq}
use Rattle.vhost_protocol.specs.Reverse as reverse
use Rattle.vhost_backend_req.specs.declared.internal.BackendInternal.{BackendInternal}

-- its endpoint, what was agreed on, and the number of the error with which it was marked as failed
pub record Channel (L H : Type 0) : Type 0 where
  pub endpoint : State L H
  pub reply_ack : Bool
  pub shared_object : Bool
  pub shmem : Bool
  pub config_change : Bool
  pub failed : Option ℤ

abbrev pub channel : {L H : Type 0} → BackendInternal L H → Channel L H
channel b = record { endpoint = state b.endpoint; reply_ack = b.reply_ack; shared_object = b.shared_object; shmem = b.shmem; config_change = b.config_change; failed = b.failed }

-- a channel that has not sent or received yet
abbrev pub opened : {L H : Type 0} → L → ℕ → Channel L H
opened link budget = record { endpoint = fresh link budget; reply_ack = false; shared_object = false; shmem = false; config_change = false; failed = None }

-- the channel over another endpoint
abbrev pub with_endpoint : {L H : Type 0} → BackendInternal L H → Endpoint (VhostUserMsgHeader BackendReq) L H → BackendInternal L H
with_endpoint b endpoint = record b { endpoint = endpoint }

-- what it remembers
abbrev pub backend_of : {L H : Type 0} → Channel L H → reverse.Backend
backend_of c = record { reply_ack = c.reply_ack; shared_object = c.shared_object; shmem = c.shmem; config_change = c.config_change; failed = c.failed }
