-- What a handler asks of its device, and what the device may answer.
use Rattle.std.specs.Prelude.{ℕ, Bool, List, Option, Result, ⊤}
use Rattle.vhost_message.specs.declared.records.inflight.VhostUserInflight.{VhostUserInflight}
use Rattle.vhost_message.specs.declared.records.log.VhostUserLog.{VhostUserLog}
use Rattle.vhost_message.specs.declared.records.memory.VhostUserMemoryRegion.{VhostUserMemoryRegion}
use Rattle.vhost_message.specs.declared.records.memory.VhostUserSingleMemoryRegion.{VhostUserSingleMemoryRegion}
use Rattle.vhost_message.specs.declared.records.shared.VhostUserSharedMsg.{VhostUserSharedMsg}
use Rattle.vhost_message.specs.declared.records.shmem.VhostUserShMemConfig.{VhostUserShMemConfig}
use Rattle.vhost_message.specs.declared.records.transfer.VhostUserTransferDeviceState.{VhostUserTransferDeviceState}
use Rattle.vhost_message.specs.declared.records.vring.VhostUserVringState.{VhostUserVringState}
use Rattle.vhost_message.specs.declared.records.vring.VhostUserVringAddr.{VhostUserVringAddr}
use Rattle.vhost_protocol.specs.Error.{Error}

-- a call of the device with its arguments, over handles of the type H, backend channels of the type B and channels to a display of the type G
pub data Call (H B G : Type 0) : Type 0 where
  SetOwner : Call H B G
  ResetOwner : Call H B G
  ResetDevice : Call H B G
  GetFeatures : Call H B G
  SetFeatures : (features : ℕ) → Call H B G
  SetMemTable : List VhostUserMemoryRegion → List H → (postcopy : Option Bool) → Call H B G
  SetVringNum : (index num : ℕ) → Call H B G
  SetVringAddr : VhostUserVringAddr → Call H B G
  SetVringBase : (index base : ℕ) → Call H B G
  GetVringBase : (index : ℕ) → Call H B G
  SetVringKick : (index : ℕ) → Option H → Call H B G
  SetVringCall : (index : ℕ) → Option H → Call H B G
  SetVringErr : (index : ℕ) → Option H → Call H B G
  GetProtocolFeatures : Call H B G
  SetProtocolFeatures : (features : ℕ) → Call H B G
  GetQueueNum : Call H B G
  SetVringEnable : (index : ℕ) → Bool → Call H B G
  GetConfig : (offset size flags : ℕ) → Call H B G
  SetConfig : (offset : ℕ) → List ℕ → (flags : ℕ) → Call H B G
  SetBackendReqFd : B → Call H B G
  SetGpuSocket : G → Call H B G
  GetSharedObject : VhostUserSharedMsg → Call H B G
  GetInflightFd : VhostUserInflight → Call H B G
  SetInflightFd : VhostUserInflight → H → Call H B G
  GetMaxMemSlots : Call H B G
  AddMemRegion : VhostUserSingleMemoryRegion → H → (postcopy : Option Bool) → Call H B G
  RemoveMemRegion : VhostUserSingleMemoryRegion → Call H B G
  SetDeviceStateFd : VhostUserTransferDeviceState → H → Call H B G
  CheckDeviceState : Call H B G
  GetShmemConfig : Call H B G
  PostcopyAdvice : Call H B G
  PostcopyListen : Call H B G
  PostcopyEnd : Call H B G
  PostcopyAckMemRegions : Call H B G
  SetLogBase : VhostUserLog → H → Call H B G
  SetMtu : (mtu : ℕ) → Call H B G
  Other : (request : ℕ) → List ℕ → List H → Call H B G

-- what a call may be answered
abbrev pub Answer : {H B G : Type 0} → Call H B G → Type 0
Answer GetFeatures = Result ℕ Error
Answer (SetMemTable regions handles postcopy) = Result (Option (List ℕ)) Error
Answer (GetVringBase index) = Result VhostUserVringState Error
Answer GetProtocolFeatures = Result ℕ Error
Answer GetQueueNum = Result ℕ Error
Answer (GetConfig offset size flags) = Result (List ℕ) Error
Answer (SetBackendReqFd channel) = ⊤
Answer {H} (GetSharedObject name) = Result H Error
Answer {H} (GetInflightFd area) = Result (VhostUserInflight × H) Error
Answer GetMaxMemSlots = Result ℕ Error
Answer (AddMemRegion region handle postcopy) = Result (Option ℕ) Error
Answer {H} (SetDeviceStateFd transfer handle) = Result (Option H) Error
Answer GetShmemConfig = Result VhostUserShMemConfig Error
Answer {H} PostcopyAdvice = Result H Error
Answer _ = Result ⊤ Error
