-- Regions of the code, as the definitions see them.
use Rattle.std.specs.Prelude.{ℕ, List, map, Option, Some, None, Vec}
use Rattle.std.specs.Global.{Global}
use Rattle.std.specs.Borrow.{Bor}
use Rattle.vhost_protocol.specs.FrontendCall.{Info, LogRegion}
use Rattle.vhost_backend.specs.Region.{region_in}
use Rattle.vhost_backend.specs.declared.dirty_log.VhostUserDirtyLogRegion.{VhostUserDirtyLogRegion}
use Rattle.vhost_backend.specs.declared.region.VhostUserMemoryRegionInfo.{VhostUserMemoryRegionInfo}
use Rattle.vhost_frontend_core.specs.declared.regions.RegionInfo.{RegionInfo}
use Rattle.vhost_frontend_core.specs.declared.regions.Regions as code
use Rattle.vhost_frontend_core.specs.declared.regions.Regions.TheVariants as regions

-- a handle that is lent
abbrev pub lent : {H : Type 0} → Option (Bor H) → Option H
lent None = None
lent (Some h) = Some h.now

-- a region, and the handle of its mapping
abbrev pub info_in : {H : Type 0} → VhostUserMemoryRegionInfo H → Info H
info_in info = record { region = region_in info; handle = lent info.mmap_handle }

-- the regions of a table, and their handles
abbrev pub infos_in : {H : Type 0} → List (VhostUserMemoryRegionInfo H) → List (Info H)
infos_in regions = map (λ region. info_in region) regions

-- a region that is kept, and its handle
abbrev pub info_of : {H : Type 0} → RegionInfo H → Info H
info_of info = record { region = info.region; handle = info.mmap_handle }

-- the regions of a table, lent or kept
abbrev pub table_in : {H : Type 0} → code.Regions H → List (Info H)
table_in (regions.Lent infos) = infos_in infos.now
table_in (regions.Kept infos) = map info_of infos.now

-- where regions are mapped
abbrev pub bases_seen : Option (Vec ℕ Global) → Option (List ℕ)
bases_seen None = None
bases_seen (Some bases) = Some bases.items

-- where the dirty log is kept
abbrev pub log_region_in : {H : Type 0} → Option (VhostUserDirtyLogRegion H) → Option (LogRegion H)
log_region_in None = None
log_region_in (Some r) = Some (record { mmap_size = r.mmap_size; mmap_offset = r.mmap_offset; handle = lent r.mmap_handle })
