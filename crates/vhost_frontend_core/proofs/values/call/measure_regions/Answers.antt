-- All regions fit.
use Rattle.std.proofs.Common.{arith, subst, All}
use Rattle.std.proofs.lemmas.List.{take_all}
use Rattle.vhost_message.specs.RecordLaws.{RegionFits}
use Rattle.vhost_link.specs.declared.plain.PlainHandle.{PlainHandle}
use Rattle.vhost_frontend_core.specs.declared.regions.RegionInfo.{RegionInfo}
use Rattle.vhost_frontend_core.proofs.ValueTables.{fitting-more}
use Rattle.vhost_frontend_core.proofs.values.call.measure_regions.Goals as goal

pub regions-preserved : goal.regions-preserved
regions-preserved c = fitting-more (λ (info : RegionInfo PlainHandle). RegionFits info.region) c.args.regions.now c.regions.i _ (omega arith) c.regions.invariant c.lent-region.ensures.fits

pub returns : goal.returns
returns c = subst (λ l. All (λ (info : RegionInfo PlainHandle). RegionFits info.region) l) (take_all c.regions.i c.args.regions.now (omega arith)) c.regions.invariant
