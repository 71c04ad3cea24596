-- Each record is read from its text again, where its numbers are within their fields.
use Rattle.std.specs.Prelude.{◌≡◌, ◌<◌, ◌^◌, [], ◌++◌}
use Rattle.byteorder.specs.Numbers.{little_number-reads_back}
use Rattle.vhost_message.specs.Text.{digits}
use Rattle.vhost_message.specs.Records.{memory_text, memory_of, region_text, region_at, single_region_text, single_region_of, vring_state_text, vring_state_of, vring_addr_text, vring_addr_of, config_text, config_of, inflight_text, inflight_of, log_text, log_of, transfer_text, transfer_of}
use Rattle.vhost_message.specs.declared.records.config.VhostUserConfig.{VhostUserConfig}
use Rattle.vhost_message.specs.declared.records.inflight.VhostUserInflight.{VhostUserInflight}
use Rattle.vhost_message.specs.declared.records.log.VhostUserLog.{VhostUserLog}
use Rattle.vhost_message.specs.declared.records.memory.VhostUserMemory.{VhostUserMemory}
use Rattle.vhost_message.specs.declared.records.memory.VhostUserMemoryRegion.{VhostUserMemoryRegion}
use Rattle.vhost_message.specs.declared.records.memory.VhostUserSingleMemoryRegion.{VhostUserSingleMemoryRegion}
use Rattle.vhost_message.specs.declared.records.transfer.VhostUserTransferDeviceState.{VhostUserTransferDeviceState}
use Rattle.vhost_message.specs.declared.records.vring.VhostUserVringState.{VhostUserVringState}
use Rattle.vhost_message.specs.declared.records.vring.VhostUserVringAddr.{VhostUserVringAddr}

-- ---- the numbers of a record are within their fields

abbrev pub MemoryFits : VhostUserMemory → Type 0
MemoryFits m = (m.num_regions < 2 ^ 32) × (m.padding1 < 2 ^ 32)

abbrev pub RegionFits : VhostUserMemoryRegion → Type 0
RegionFits r = (r.guest_phys_addr < 2 ^ 64) × (r.memory_size < 2 ^ 64) × (r.user_addr < 2 ^ 64) × (r.mmap_offset < 2 ^ 64)

abbrev pub SingleRegionFits : VhostUserSingleMemoryRegion → Type 0
SingleRegionFits r = (r.padding < 2 ^ 64) × RegionFits r.region

abbrev pub VringStateFits : VhostUserVringState → Type 0
VringStateFits v = (v.index < 2 ^ 32) × (v.num < 2 ^ 32)

abbrev pub VringAddrFits : VhostUserVringAddr → Type 0
VringAddrFits v = (v.index < 2 ^ 32) × (v.flags < 2 ^ 32) × (v.descriptor < 2 ^ 64) × (v.used < 2 ^ 64) × (v.available < 2 ^ 64) × (v.log < 2 ^ 64)

abbrev pub ConfigFits : VhostUserConfig → Type 0
ConfigFits c = (c.offset < 2 ^ 32) × (c.size < 2 ^ 32) × (c.flags < 2 ^ 32)

abbrev pub InflightFits : VhostUserInflight → Type 0
InflightFits i = (i.mmap_size < 2 ^ 64) × (i.mmap_offset < 2 ^ 64) × (i.num_queues < 2 ^ 16) × (i.queue_size < 2 ^ 16)

abbrev pub LogFits : VhostUserLog → Type 0
LogFits l = (l.mmap_size < 2 ^ 64) × (l.mmap_offset < 2 ^ 64)

abbrev pub TransferFits : VhostUserTransferDeviceState → Type 0
TransferFits t = (t.direction < 2 ^ 32) × (t.phase < 2 ^ 32)

-- ---- so its text is read as that record

pub memory-reads_back : (m : VhostUserMemory) → MemoryFits m → memory_of (memory_text m) ≡ m
memory-reads_back m fits =
    let num_regions = little_number-reads_back 4 m.num_regions (digits 4 m.padding1) fits.0 in
    let padding1 = little_number-reads_back 4 m.padding1 [] fits.1 in
    λ i. record { num_regions = num_regions i; padding1 = padding1 i }

pub region-reads_back : (r : VhostUserMemoryRegion) → RegionFits r → region_at 0 (region_text r) ≡ r
region-reads_back r fits =
    let start = little_number-reads_back 8 r.guest_phys_addr (digits 8 r.memory_size ++ digits 8 r.user_addr ++ digits 8 r.mmap_offset) fits.0 in
    let size = little_number-reads_back 8 r.memory_size (digits 8 r.user_addr ++ digits 8 r.mmap_offset) fits.1 in
    let user = little_number-reads_back 8 r.user_addr (digits 8 r.mmap_offset) fits.2 in
    let offset = little_number-reads_back 8 r.mmap_offset [] fits.3 in
    λ i. record { guest_phys_addr = start i; memory_size = size i; user_addr = user i; mmap_offset = offset i }

pub single_region-reads_back : (r : VhostUserSingleMemoryRegion) → SingleRegionFits r → single_region_of (single_region_text r) ≡ r
single_region-reads_back r fits =
    let padding = little_number-reads_back 8 r.padding (region_text r.region) fits.0 in
    let region = region-reads_back r.region fits.1 in
    λ i. record { padding = padding i; region = region i }

pub vring_state-reads_back : (v : VhostUserVringState) → VringStateFits v → vring_state_of (vring_state_text v) ≡ v
vring_state-reads_back v fits =
    let index = little_number-reads_back 4 v.index (digits 4 v.num) fits.0 in
    let num = little_number-reads_back 4 v.num [] fits.1 in
    λ i. record { index = index i; num = num i }

pub vring_addr-reads_back : (v : VhostUserVringAddr) → VringAddrFits v → vring_addr_of (vring_addr_text v) ≡ v
vring_addr-reads_back v fits =
    let index = little_number-reads_back 4 v.index (digits 4 v.flags ++ digits 8 v.descriptor ++ digits 8 v.used ++ digits 8 v.available ++ digits 8 v.log) fits.0 in
    let flags = little_number-reads_back 4 v.flags (digits 8 v.descriptor ++ digits 8 v.used ++ digits 8 v.available ++ digits 8 v.log) fits.1 in
    let descriptor = little_number-reads_back 8 v.descriptor (digits 8 v.used ++ digits 8 v.available ++ digits 8 v.log) fits.2 in
    let used = little_number-reads_back 8 v.used (digits 8 v.available ++ digits 8 v.log) fits.3 in
    let available = little_number-reads_back 8 v.available (digits 8 v.log) fits.4 in
    let log = little_number-reads_back 8 v.log [] fits.5 in
    λ i. record { index = index i; flags = flags i; descriptor = descriptor i; used = used i; available = available i; log = log i }

pub config-reads_back : (c : VhostUserConfig) → ConfigFits c → config_of (config_text c) ≡ c
config-reads_back c fits =
    let offset = little_number-reads_back 4 c.offset (digits 4 c.size ++ digits 4 c.flags) fits.0 in
    let size = little_number-reads_back 4 c.size (digits 4 c.flags) fits.1 in
    let flags = little_number-reads_back 4 c.flags [] fits.2 in
    λ i. record { offset = offset i; size = size i; flags = flags i }

pub inflight-reads_back : (v : VhostUserInflight) → InflightFits v → inflight_of (inflight_text v) ≡ v
inflight-reads_back v fits =
    let mmap_size = little_number-reads_back 8 v.mmap_size (digits 8 v.mmap_offset ++ digits 2 v.num_queues ++ digits 2 v.queue_size ++ digits 4 0) fits.0 in
    let mmap_offset = little_number-reads_back 8 v.mmap_offset (digits 2 v.num_queues ++ digits 2 v.queue_size ++ digits 4 0) fits.1 in
    let num_queues = little_number-reads_back 2 v.num_queues (digits 2 v.queue_size ++ digits 4 0) fits.2 in
    let queue_size = little_number-reads_back 2 v.queue_size (digits 4 0) fits.3 in
    λ i. record { mmap_size = mmap_size i; mmap_offset = mmap_offset i; num_queues = num_queues i; queue_size = queue_size i }

pub log-reads_back : (l : VhostUserLog) → LogFits l → log_of (log_text l) ≡ l
log-reads_back l fits =
    let mmap_size = little_number-reads_back 8 l.mmap_size (digits 8 l.mmap_offset) fits.0 in
    let mmap_offset = little_number-reads_back 8 l.mmap_offset [] fits.1 in
    λ i. record { mmap_size = mmap_size i; mmap_offset = mmap_offset i }

pub transfer-reads_back : (t : VhostUserTransferDeviceState) → TransferFits t → transfer_of (transfer_text t) ≡ t
transfer-reads_back t fits =
    let direction = little_number-reads_back 4 t.direction (digits 4 t.phase) fits.0 in
    let phase = little_number-reads_back 4 t.phase [] fits.1 in
    λ i. record { direction = direction i; phase = phase i }
