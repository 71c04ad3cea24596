-- What a caller asks of a frontend, and what it may be answered.
use Rattle.std.specs.Prelude.{ℕ, Bool, List, Option}
use Rattle.vhost_message.specs.declared.heard_req.HeardReq.{HeardReq}
use Rattle.vhost_message.specs.declared.postcopy.PostcopyState.{PostcopyState}
use Rattle.vhost_message.specs.declared.postcopy.PostcopyState.TheVariants.{Inactive}
use Rattle.vhost_message.specs.declared.records.config.VhostUserConfig.{VhostUserConfig}
use Rattle.vhost_message.specs.declared.records.inflight.VhostUserInflight.{VhostUserInflight}
use Rattle.vhost_message.specs.declared.records.memory.VhostUserMemoryRegion.{VhostUserMemoryRegion}
use Rattle.vhost_message.specs.declared.records.shared.VhostUserSharedMsg.{VhostUserSharedMsg}
use Rattle.vhost_message.specs.declared.records.shmem.VhostUserShMemConfig.{VhostUserShMemConfig}
use Rattle.vhost_message.specs.declared.records.transfer.VhostUserTransferDeviceState.{VhostUserTransferDeviceState}
use Rattle.vhost_message.specs.declared.vring_config.VringConfigData.{VringConfigData}
use Rattle.vhost_protocol.specs.declared.profile.Profile.{Profile}
use Rattle.vhost_protocol.specs.declared.profile.Profile.TheVariants.{Vhost}

-- a region of guest memory, and the handle of its mapping where there is one
pub record Info (H : Type 0) : Type 0 where
  pub region : VhostUserMemoryRegion
  pub handle : Option H

-- where the dirty log is kept
pub record LogRegion (H : Type 0) : Type 0 where
  pub mmap_size : ℕ
  pub mmap_offset : ℕ
  pub handle : Option H

-- a call of the frontend with its arguments, over handles of the type H
pub data FrontendCall (H : Type 0) : Type 0 where
  GetFeatures : FrontendCall H
  SetFeatures : (features : ℕ) → FrontendCall H
  SetOwner : FrontendCall H
  ResetOwner : FrontendCall H
  GetProtocolFeatures : FrontendCall H
  SetProtocolFeatures : (features : ℕ) → FrontendCall H
  GetQueueNum : FrontendCall H
  ResetDevice : FrontendCall H
  SetMemTable : List (Info H) → FrontendCall H
  SetLogBase : (base : ℕ) → Option (LogRegion H) → FrontendCall H
  SetLogFd : H → FrontendCall H
  SetVringNum : (index num : ℕ) → FrontendCall H
  SetVringBase : (index base : ℕ) → FrontendCall H
  SetVringAddr : (index : ℕ) → VringConfigData → FrontendCall H
  GetVringBase : (index : ℕ) → FrontendCall H
  SetVringCall : (index : ℕ) → Option H → FrontendCall H
  SetVringKick : (index : ℕ) → Option H → FrontendCall H
  SetVringErr : (index : ℕ) → Option H → FrontendCall H
  SetVringEnable : (index : ℕ) → Bool → FrontendCall H
  GetConfig : (offset size flags : ℕ) → (buffer : List ℕ) → FrontendCall H
  SetConfig : (offset flags : ℕ) → (buffer : List ℕ) → FrontendCall H
  SetBackendRequestFd : H → FrontendCall H
  GetSharedObject : VhostUserSharedMsg → FrontendCall H
  GetInflightFd : VhostUserInflight → FrontendCall H
  SetInflightFd : VhostUserInflight → H → FrontendCall H
  GetMaxMemSlots : FrontendCall H
  AddMemRegion : Info H → FrontendCall H
  RemoveMemRegion : Info H → FrontendCall H
  GetShmemConfig : FrontendCall H
  SetDeviceStateFd : VhostUserTransferDeviceState → H → FrontendCall H
  CheckDeviceState : FrontendCall H
  PostcopyAdvise : FrontendCall H
  PostcopyListen : FrontendCall H
  PostcopyEnd : FrontendCall H
  PostcopyAckMemRegions : HeardReq → FrontendCall H
  SetMtu : (mtu : ℕ) → FrontendCall H
  SetHdrFlags : (flags : ℕ) → FrontendCall H

-- what a call that succeeds may answer
pub data Value (H : Type 0) : Type 0 where
  Nothing : Value H
  Number : ℕ → Value H
  Bases : Option (List ℕ) → Value H
  Base : Option ℕ → Value H
  ConfigOf : VhostUserConfig → List ℕ → Value H
  HandleOf : H → Value H
  InflightOf : VhostUserInflight → H → Value H
  StateHandle : Option H → Value H
  ShmemOf : VhostUserShMemConfig → Value H

-- what a frontend remembers, and whose behaviour it has
pub record Frontend : Type 0 where
  pub offered : ℕ
  pub acked : ℕ
  pub acked_protocol_features : ℕ
  pub max_queue_num : ℕ
  pub header_flags : ℕ
  pub postcopy : PostcopyState
  pub profile : Profile

-- a new frontend, of a device with that many queues at most
abbrev pub new_frontend : ℕ → Frontend
new_frontend queues = record { offered = 0; acked = 0; acked_protocol_features = 0; max_queue_num = queues; header_flags = 0; postcopy = Inactive; profile = Vhost }
