-- The bodies of messages: their bytes, and the record that bytes are read as.
use Rattle.std.specs.Prelude.{ℕ, zero, suc, ◌+◌, ◌-◌, List, [], ◌∷◌, ◌++◌, length, take, drop, replicate, flat_map}
use Rattle.vhost_message.specs.Text.{digits, number_at}
use Rattle.vhost_message.specs.declared.limits.TheConstants.{MEMORY_REGION_SIZE}
use Rattle.vhost_message.specs.declared.records.config.VhostUserConfig.{VhostUserConfig}
use Rattle.vhost_message.specs.declared.records.inflight.VhostUserInflight.{VhostUserInflight}
use Rattle.vhost_message.specs.declared.records.log.VhostUserLog.{VhostUserLog}
use Rattle.vhost_message.specs.declared.records.memory.VhostUserMemory.{VhostUserMemory}
use Rattle.vhost_message.specs.declared.records.memory.VhostUserMemoryRegion.{VhostUserMemoryRegion}
use Rattle.vhost_message.specs.declared.records.memory.VhostUserSingleMemoryRegion.{VhostUserSingleMemoryRegion}
use Rattle.vhost_message.specs.declared.records.shmem.VhostUserShMemConfig.{VhostUserShMemConfig}
use Rattle.vhost_message.specs.declared.records.shmem.VhostUserMMap.{VhostUserMMap}
use Rattle.vhost_message.specs.declared.records.transfer.VhostUserTransferDeviceState.{VhostUserTransferDeviceState}
use Rattle.vhost_message.specs.declared.records.vring.VhostUserVringState.{VhostUserVringState}
use Rattle.vhost_message.specs.declared.records.vring.VhostUserVringAddr.{VhostUserVringAddr}

-- ---- records from their parts

-- one region, with padding 0
abbrev pub single_region : VhostUserMemoryRegion → VhostUserSingleMemoryRegion
single_region r = record { padding = 0; region = r }

-- the region that a record of one region holds
abbrev pub region_within : VhostUserSingleMemoryRegion → VhostUserMemoryRegion
region_within r = r.region

-- n regions of shared memory with these sizes: the first 256 of them, and 0 where there are fewer
abbrev pub shmem_config : ℕ → List ℕ → VhostUserShMemConfig
shmem_config n sizes = record { nregions = n; padding = 0; memory_sizes = take 256 sizes ++ replicate (256 - length sizes) 0 }

-- ---- texts

-- of a region
abbrev pub region_text : VhostUserMemoryRegion → List ℕ
region_text r = digits 8 r.guest_phys_addr ++ digits 8 r.memory_size ++ digits 8 r.user_addr ++ digits 8 r.mmap_offset

-- of a table's head
abbrev pub memory_text : VhostUserMemory → List ℕ
memory_text m = digits 4 m.num_regions ++ digits 4 m.padding1

-- of one region
abbrev pub single_region_text : VhostUserSingleMemoryRegion → List ℕ
single_region_text r = digits 8 r.padding ++ region_text r.region

-- of the sizes of shared memory
abbrev pub shmem_config_text : VhostUserShMemConfig → List ℕ
shmem_config_text c = digits 4 c.nregions ++ digits 4 c.padding ++ flat_map (digits 8) c.memory_sizes

-- of a ring's number
abbrev pub vring_state_text : VhostUserVringState → List ℕ
vring_state_text v = digits 4 v.index ++ digits 4 v.num

-- of a ring's place
abbrev pub vring_addr_text : VhostUserVringAddr → List ℕ
vring_addr_text v = digits 4 v.index ++ digits 4 v.flags ++ digits 8 v.descriptor ++ digits 8 v.used ++ digits 8 v.available ++ digits 8 v.log

-- of a part of configuration space
abbrev pub config_text : VhostUserConfig → List ℕ
config_text c = digits 4 c.offset ++ digits 4 c.size ++ digits 4 c.flags

-- four reserved bytes at the end are written 0
abbrev pub inflight_text : VhostUserInflight → List ℕ
inflight_text i = digits 8 i.mmap_size ++ digits 8 i.mmap_offset ++ digits 2 i.num_queues ++ digits 2 i.queue_size ++ digits 4 0

-- of the log's area
abbrev pub log_text : VhostUserLog → List ℕ
log_text l = digits 8 l.mmap_size ++ digits 8 l.mmap_offset

-- of a transfer
abbrev pub transfer_text : VhostUserTransferDeviceState → List ℕ
transfer_text t = digits 4 t.direction ++ digits 4 t.phase

-- of a mapping
abbrev pub mmap_text : VhostUserMMap → List ℕ
mmap_text m = digits 1 m.shmid ++ m.padding ++ digits 8 m.fd_offset ++ digits 8 m.shm_offset ++ digits 8 m.len ++ digits 8 m.flags

-- ---- the record at a place of some bytes

-- a number
abbrev pub u64_at : ℕ → List ℕ → ℕ
u64_at p bs = number_at p 8 bs

-- a region
abbrev pub region_at : ℕ → List ℕ → VhostUserMemoryRegion
region_at p bs = record {
  guest_phys_addr = number_at p 8 bs;
  memory_size = number_at (p + 8) 8 bs;
  user_addr = number_at (p + 16) 8 bs;
  mmap_offset = number_at (p + 24) 8 bs;
}

-- n regions one after another
abbrev pub regions_of : ℕ → List ℕ → List VhostUserMemoryRegion
regions_of zero bs = []
regions_of (suc n) bs = region_at 0 bs ∷ regions_of n (drop MEMORY_REGION_SIZE bs)

-- a table's head
abbrev pub memory_of : List ℕ → VhostUserMemory
memory_of bs = record { num_regions = number_at 0 4 bs; padding1 = number_at 4 4 bs }

-- one region
abbrev pub single_region_of : List ℕ → VhostUserSingleMemoryRegion
single_region_of bs = record { padding = number_at 0 8 bs; region = region_at 8 bs }

-- n numbers of eight bytes
abbrev pub numbers_of : ℕ → List ℕ → List ℕ
numbers_of zero bs = []
numbers_of (suc n) bs = number_at 0 8 bs ∷ numbers_of n (drop 8 bs)

-- the sizes of shared memory
abbrev pub shmem_config_of : List ℕ → VhostUserShMemConfig
shmem_config_of bs = record { nregions = number_at 0 4 bs; padding = number_at 4 4 bs; memory_sizes = numbers_of 256 (drop 8 bs) }

-- a ring's number
abbrev pub vring_state_of : List ℕ → VhostUserVringState
vring_state_of bs = record { index = number_at 0 4 bs; num = number_at 4 4 bs }

-- a ring's place
abbrev pub vring_addr_of : List ℕ → VhostUserVringAddr
vring_addr_of bs = record {
  index = number_at 0 4 bs;
  flags = number_at 4 4 bs;
  descriptor = number_at 8 8 bs;
  used = number_at 16 8 bs;
  available = number_at 24 8 bs;
  log = number_at 32 8 bs;
}

-- a part of configuration space
abbrev pub config_of : List ℕ → VhostUserConfig
config_of bs = record { offset = number_at 0 4 bs; size = number_at 4 4 bs; flags = number_at 8 4 bs }

-- the last four bytes are not read
abbrev pub inflight_of : List ℕ → VhostUserInflight
inflight_of bs = record {
  mmap_size = number_at 0 8 bs;
  mmap_offset = number_at 8 8 bs;
  num_queues = number_at 16 2 bs;
  queue_size = number_at 18 2 bs;
}

-- the log's area
abbrev pub log_of : List ℕ → VhostUserLog
log_of bs = record { mmap_size = number_at 0 8 bs; mmap_offset = number_at 8 8 bs }

-- a transfer
abbrev pub transfer_of : List ℕ → VhostUserTransferDeviceState
transfer_of bs = record { direction = number_at 0 4 bs; phase = number_at 4 4 bs }

-- a mapping
abbrev pub mmap_of : List ℕ → VhostUserMMap
mmap_of bs = record {
  shmid = number_at 0 1 bs;
  padding = take 7 (drop 1 bs);
  fd_offset = number_at 8 8 bs;
  shm_offset = number_at 16 8 bs;
  len = number_at 24 8 bs;
  flags = number_at 32 8 bs;
}
