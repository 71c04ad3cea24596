-- Which records are valid: tests over whole numbers, so that no sum wraps.
use Rattle.std.specs.Prelude.{ℕ, ◌+◌, ◌%◌, ◌^◌, Bool, not, ◌&&◌, List, ◌==◌, nat_le, nat_lt}
use Rattle.std.specs.List.{list_all}
use Rattle.vhost_message.specs.declared.limits.TheConstants.{MAX_MEM_REGIONS, VHOST_USER_CONFIG_SIZE}
use Rattle.vhost_message.specs.declared.records.config.VhostUserConfig.{VhostUserConfig}
use Rattle.vhost_message.specs.declared.records.inflight.VhostUserInflight.{VhostUserInflight}
use Rattle.vhost_message.specs.declared.records.log.VhostUserLog.{VhostUserLog}
use Rattle.vhost_message.specs.declared.records.memory.VhostUserMemory.{VhostUserMemory}
use Rattle.vhost_message.specs.declared.records.memory.VhostUserMemoryRegion.{VhostUserMemoryRegion}
use Rattle.vhost_message.specs.declared.records.shmem.VhostUserMMap.{VhostUserMMap}
use Rattle.vhost_message.specs.declared.records.transfer.VhostUserTransferDeviceState.{VhostUserTransferDeviceState}
use Rattle.vhost_message.specs.declared.records.vring.VhostUserVringAddr.{VhostUserVringAddr}

-- the sum is a number of 64 bits
abbrev pub fits_u64 : ℕ → ℕ → Bool
fits_u64 a b = nat_lt (a + b) (2 ^ 64)

-- not empty, and no end beyond 64 bits
abbrev pub is_valid_region : VhostUserMemoryRegion → Bool
is_valid_region r =
    not (r.memory_size == 0) && fits_u64 r.guest_phys_addr r.memory_size && fits_u64 r.user_addr r.memory_size && fits_u64 r.mmap_offset r.memory_size

-- at least one region, and no more than a table may have
abbrev pub is_valid_memory : VhostUserMemory → Bool
is_valid_memory m = m.padding1 == 0 && nat_le 1 m.num_regions && nat_le m.num_regions MAX_MEM_REGIONS

-- known flags, and each part aligned
abbrev pub is_valid_vring_addr : VhostUserVringAddr → Bool
is_valid_vring_addr v = nat_le v.flags 1 && v.descriptor % 16 == 0 && v.available % 2 == 0 && v.used % 4 == 0

-- not empty, and within configuration space
abbrev pub is_valid_config : VhostUserConfig → Bool
is_valid_config c = nat_le c.flags 3 && not (c.size == 0) && nat_le (c.offset + c.size) VHOST_USER_CONFIG_SIZE

-- some queues, of some size
abbrev pub is_valid_inflight : VhostUserInflight → Bool
is_valid_inflight i = not (i.num_queues == 0) && not (i.queue_size == 0)

-- not empty, and no end beyond 64 bits
abbrev pub is_valid_log : VhostUserLog → Bool
is_valid_log l = not (l.mmap_size == 0) && fits_u64 l.mmap_size l.mmap_offset

-- an object's name is neither all zeros nor all ones
abbrev pub is_valid_uuid : List ℕ → Bool
is_valid_uuid bs = not (list_all (λ b. b == 0) bs) && not (list_all (λ b. b == 255) bs)

-- SAVE or LOAD, while STOPPED
abbrev pub is_valid_transfer : VhostUserTransferDeviceState → Bool
is_valid_transfer t = nat_le t.direction 1 && t.phase == 0

-- not empty, no end beyond 64 bits, and a known flag
abbrev pub is_valid_mmap : VhostUserMMap → Bool
is_valid_mmap m = not (m.len == 0) && fits_u64 m.fd_offset m.len && fits_u64 m.shm_offset m.len && nat_le m.flags 1
