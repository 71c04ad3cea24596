use Rattle.std.proofs.Common.{◌≡◌, ◌*◌, take, flat_map, All}
use Rattle.vhost_message.specs.Records.{region_text}
use Rattle.vhost_message.specs.RecordLaws.{RegionFits}
use Rattle.vhost_message.specs.declared.limits.TheConstants.{MEMORY_REGION_SIZE}
use Rattle.vhost_message.proofs.records.table.put_regions.Given as goal

-- the regions so far are written
abbrev pub invariant-regions : goal.invariant-regions
invariant-regions l = (take (MEMORY_REGION_SIZE * l.i) l.out ≡ flat_map region_text (take l.i l.regions)) × All RegionFits (take l.i l.regions)
