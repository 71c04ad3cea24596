use Rattle.std.proofs.Common.{take, All}
use Rattle.vhost_message.specs.RecordLaws.{RegionFits}
use Rattle.vhost_link.specs.declared.plain.PlainHandle.{PlainHandle}
use Rattle.vhost_frontend_core.specs.declared.regions.RegionInfo.{RegionInfo}
use Rattle.vhost_frontend_core.proofs.values.call.measure_regions.Given as goal

-- the regions so far fit
abbrev pub invariant-regions : goal.invariant-regions
invariant-regions l = All (λ (info : RegionInfo PlainHandle). RegionFits info.region) (take l.i l.regions)
