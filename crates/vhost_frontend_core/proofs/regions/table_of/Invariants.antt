use Rattle.std.proofs.Common.{◌≡◌, take, length}
use Rattle.vhost_message.specs.declared.limits.TheConstants.{MAX_MEM_REGIONS}
use Rattle.vhost_protocol.specs.Ask.{regions_in}
use Rattle.vhost_frontend_core.specs.Regions.{table_in}
use Rattle.vhost_frontend_core.proofs.regions.table_of.Given as goal

-- the regions so far
abbrev pub invariant-regions : goal.invariant-regions
invariant-regions g l = (length l.table ≡ MAX_MEM_REGIONS) × (take l.i l.table ≡ regions_in (take l.i (table_in l.regions)))
