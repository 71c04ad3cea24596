-- A table that is lent: its regions fit.
use Rattle.std.proofs.Common.{sym, subst, All}
use Rattle.vhost_message.specs.RecordLaws.{RegionFits}
use Rattle.vhost_protocol.specs.Heard.{CallFits}
use Rattle.vhost_link.specs.declared.plain.PlainHandle.{PlainHandle}
use Rattle.vhost_frontend_core.specs.Values.{call_of}
use Rattle.vhost_frontend_core.specs.declared.regions.RegionInfo.{RegionInfo}
use Rattle.vhost_frontend_core.proofs.ValueTables.{all-regions}
use Rattle.vhost_frontend_core.proofs.values.call.FrontendCall.lent.Goals as goal

pub returns-in-SetMemTable-clause-small : goal.returns-in-SetMemTable-clause-small
returns-in-SetMemTable-clause-small c =
    subst (λ call. CallFits (call_of call)) (sym c.in-SetMemTable.is)
    (all-regions c.in-SetMemTable.regions.items (subst (λ l. All (λ (info : RegionInfo PlainHandle). RegionFits info.region) l) c.deref.ensures.value c.measure_regions.ensures))
