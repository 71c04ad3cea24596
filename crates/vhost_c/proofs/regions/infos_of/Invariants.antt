use Rattle.std.proofs.Common.{◌≡◌, take, map}
use Rattle.vhost_frontend_core.specs.Regions.{info_of}
use Rattle.vhost_c.specs.Records.{info_in}
use Rattle.vhost_c.proofs.regions.infos_of.Given as goal

-- the regions so far
abbrev pub invariant-regions : goal.invariant-regions
invariant-regions l = map info_of l.infos.items ≡ map info_in (take l.region-index l.regions)
