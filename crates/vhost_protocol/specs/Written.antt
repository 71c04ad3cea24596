-- Messages by their parts, and their text ("Message payload").
use Rattle.std.specs.Prelude.{ℕ, Bool, true, false, List, [], ◌++◌, length, flat_map}
use Rattle.vhost_message.specs.declared.records.config.VhostUserConfig.{VhostUserConfig}
use Rattle.vhost_message.specs.declared.records.inflight.VhostUserInflight.{VhostUserInflight}
use Rattle.vhost_message.specs.declared.records.log.VhostUserLog.{VhostUserLog}
use Rattle.vhost_message.specs.declared.records.memory.VhostUserMemory.{VhostUserMemory}
use Rattle.vhost_message.specs.declared.records.memory.VhostUserMemoryRegion.{VhostUserMemoryRegion}
use Rattle.vhost_message.specs.declared.records.memory.VhostUserSingleMemoryRegion.{VhostUserSingleMemoryRegion}
use Rattle.vhost_message.specs.declared.records.shared.VhostUserSharedMsg.{VhostUserSharedMsg}
use Rattle.vhost_message.specs.declared.records.shmem.VhostUserShMemConfig.{VhostUserShMemConfig}
use Rattle.vhost_message.specs.declared.records.shmem.VhostUserMMap.{VhostUserMMap}
use Rattle.vhost_message.specs.declared.records.transfer.VhostUserTransferDeviceState.{VhostUserTransferDeviceState}
use Rattle.vhost_message.specs.declared.records.vring.VhostUserVringState.{VhostUserVringState}
use Rattle.vhost_message.specs.declared.records.vring.VhostUserVringAddr.{VhostUserVringAddr}
use Rattle.vhost_message.specs.Header.{Header, header_text}
use Rattle.vhost_message.specs.Records.{region_text, memory_text, single_region_text, shmem_config_text, vring_state_text, vring_addr_text, config_text, inflight_text, log_text, transfer_text, mmap_text}
use Rattle.vhost_message.specs.Text.{digits}
use Rattle.vhost_protocol.specs.Stream.{Cell, carrying}

-- what a message holds behind its header
pub data Payload : Type 0 where
  Empty : Payload
  U64 : ℕ → Payload
  Regions : List VhostUserMemoryRegion → Payload
  OneRegion : VhostUserSingleMemoryRegion → Payload
  Shmem : VhostUserShMemConfig → Payload
  RingState : VhostUserVringState → Payload
  RingAddr : VhostUserVringAddr → Payload
  ConfigBytes : VhostUserConfig → List ℕ → Payload
  InflightArea : VhostUserInflight → Payload
  LogArea : VhostUserLog → Payload
  ObjectName : VhostUserSharedMsg → Payload
  DeviceState : VhostUserTransferDeviceState → Payload
  Mapping : VhostUserMMap → Payload

-- the head of a table of so many regions ("Multiple Memory regions description")
abbrev pub table_head : ℕ → VhostUserMemory
table_head n = record { num_regions = n; padding1 = 0 }

-- its bytes
abbrev pub payload_text : Payload → List ℕ
payload_text Empty = []
payload_text (U64 n) = digits 8 n
payload_text (Regions rs) = memory_text (table_head (length rs)) ++ flat_map region_text rs
payload_text (OneRegion r) = single_region_text r
payload_text (Shmem c) = shmem_config_text c
payload_text (RingState v) = vring_state_text v
payload_text (RingAddr v) = vring_addr_text v
payload_text (ConfigBytes c bs) = config_text c ++ bs
payload_text (InflightArea i) = inflight_text i
payload_text (LogArea l) = log_text l
payload_text (ObjectName name) = name.uuid
payload_text (DeviceState t) = transfer_text t
payload_text (Mapping m) = mmap_text m

-- a message that is sent: its request, the flags REPLY and NEED_REPLY, the payload and the handles
pub record Written (R H : Type 0) : Type 0 where
  pub request : R
  pub reply : Bool
  pub need_reply : Bool
  pub payload : Payload
  pub handles : List H

-- the flags of a header: the version 1, REPLY and NEED_REPLY ("Header")
abbrev pub header_flags : Bool → Bool → ℕ
header_flags false false = 1
header_flags true false = 5
header_flags false true = 9
header_flags true true = 13

-- the header; each type of requests has its numbers
abbrev pub head_of : {R H : Type 0} → (R → ℕ) → Written R H → Header
head_of number_of w = record { code = number_of w.request; flags = header_flags w.reply w.need_reply; size = length (payload_text w.payload) }

-- the bytes on the stream
abbrev pub written_text : {R H : Type 0} → (R → ℕ) → Written R H → List ℕ
written_text number_of w = header_text (head_of number_of w) ++ payload_text w.payload

-- the bytes with the handles on the first
abbrev pub written_cells : {R H : Type 0} → (R → ℕ) → Written R H → List (Cell H)
written_cells number_of w = carrying w.handles (written_text number_of w)

-- a reply: the same request, and of the flags REPLY alone
abbrev pub reply_to : {R H : Type 0} → R → Payload → List H → Written R H
reply_to r payload handles = record { request = r; reply = true; need_reply = false; payload = payload; handles = handles }
