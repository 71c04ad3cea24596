use Rattle.std.proofs.Common.{◌≡◌, take}
use Rattle.std.specs.List.{list_all}
use Rattle.vhost_message.specs.Records.{regions_of}
use Rattle.vhost_message.specs.Valid.{is_valid_region}
use Rattle.vhost_message.proofs.records.table.read_regions.Given as goal

-- the regions so far are read
abbrev pub invariant-regions : goal.invariant-regions
invariant-regions l = (l.all ≡ list_all is_valid_region (take l.i l.regions)) × (take l.i l.regions ≡ regions_of l.i l.bytes)
