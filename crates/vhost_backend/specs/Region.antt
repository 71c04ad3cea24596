-- Regions of memory, with the handles that map them.
use Rattle.std.specs.Prelude.{None}
use Rattle.vhost_backend.specs.declared.dirty_log.VhostUserDirtyLogRegion.{VhostUserDirtyLogRegion}
use Rattle.vhost_backend.specs.declared.region.VhostUserMemoryRegionInfo.{VhostUserMemoryRegionInfo}
use Rattle.vhost_message.specs.declared.records.memory.VhostUserMemoryRegion.{VhostUserMemoryRegion}

-- the region as a memory table has it
abbrev pub region_in : {H : Type 0} → VhostUserMemoryRegionInfo H → VhostUserMemoryRegion
region_in info = record {
  guest_phys_addr = info.guest_phys_addr;
  memory_size = info.memory_size;
  user_addr = info.userspace_addr;
  mmap_offset = info.mmap_offset;
}

-- a region of length 0, all 0, without a handle
abbrev pub no_region : {H : Type 0} → VhostUserMemoryRegionInfo H
no_region = record { guest_phys_addr = 0; memory_size = 0; userspace_addr = 0; mmap_offset = 0; mmap_handle = None }

-- a log of length 0, without a handle
abbrev pub no_log_region : {H : Type 0} → VhostUserDirtyLogRegion H
no_log_region = record { mmap_size = 0; mmap_offset = 0; mmap_handle = None }
