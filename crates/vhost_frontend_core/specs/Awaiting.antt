-- What a call may await once its request went out.
use Rattle.std.specs.Prelude.{◌≡◌, ◌⊎◌, ⊤}
use Rattle.vhost_protocol.specs.FrontendCall.{FrontendCall, GetFeatures, GetProtocolFeatures, GetQueueNum, SetMemTable, SetLogBase, GetVringBase, GetConfig, GetSharedObject, GetInflightFd, GetMaxMemSlots, AddMemRegion, GetShmemConfig, SetDeviceStateFd, CheckDeviceState, PostcopyAdvise, PostcopyEnd, PostcopyAckMemRegions, Frontend, Nothing}
use Rattle.vhost_protocol.specs.AnswerTable.{after_success, plain_value}
use Rattle.vhost_protocol.specs.Ask.{Asked, Sends}
use Rattle.vhost_protocol.specs.declared.asked.Awaited.{Awaited}
use Rattle.vhost_protocol.specs.declared.asked.Awaited.TheVariants.{Nobody, Reply}
use Rattle.vhost_protocol.specs.declared.asked.Shape.TheVariants as shape
use Rattle.vhost_frontend_core.specs.Taking.{IsAck}

-- the reply of its shape; or, for all other calls, an acknowledgement or nothing
abbrev pub MayAwait : {H : Type 0} → FrontendCall H → Awaited → Type 0
MayAwait GetFeatures a = a ≡ Reply shape.U64
MayAwait GetProtocolFeatures a = a ≡ Reply shape.U64
MayAwait GetQueueNum a = a ≡ Reply shape.U64
MayAwait (SetMemTable infos) a = IsAck a ⊎ (a ≡ Reply shape.Memory)
MayAwait (SetLogBase base region) a = IsAck a ⊎ (a ≡ Reply shape.Log)
MayAwait (GetVringBase i) a = a ≡ Reply shape.VringState
MayAwait (GetConfig offset size flags buffer) a = a ≡ Reply shape.Config
MayAwait (GetSharedObject name) a = a ≡ Reply shape.Empty
MayAwait (GetInflightFd area) a = a ≡ Reply shape.Inflight
MayAwait GetMaxMemSlots a = a ≡ Reply shape.U64
MayAwait (AddMemRegion info) a = IsAck a ⊎ (a ≡ Reply shape.SingleMemoryRegion)
MayAwait GetShmemConfig a = a ≡ Reply shape.ShMemConfig
MayAwait (SetDeviceStateFd t h) a = a ≡ Reply shape.U64
MayAwait CheckDeviceState a = a ≡ Reply shape.U64
MayAwait PostcopyAdvise a = a ≡ Reply shape.Empty
MayAwait PostcopyEnd a = IsAck a ⊎ (a ≡ Reply shape.U64)
MayAwait (PostcopyAckMemRegions r) a = a ≡ Nobody
MayAwait _ a = IsAck a

-- the same of what a call becomes
abbrev pub AwaitsAllowed : {H : Type 0} → FrontendCall H → Asked H → Type 0
AwaitsAllowed call (Sends w a g) = MayAwait call a
AwaitsAllowed call _ = ⊤

-- the call is only acknowledged, shows nothing, and leaves the session as it is
pub record IsAcked {H : Type 0} (call : FrontendCall H) : Type 0 where
  pub awaits : (a : Awaited) → MayAwait call a → IsAck a
  pub shows : plain_value call ≡ Nothing
  pub keeps : (f : Frontend) → after_success f call ≡ f
