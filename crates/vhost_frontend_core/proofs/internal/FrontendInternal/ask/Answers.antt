-- A call, by what is sent and kept for it.
use Rattle.std.proofs.Common.{◌≡◌, true, ap, refl, arith}
use Rattle.vhost_frontend_core.specs.Values.{call_in}
use Rattle.vhost_frontend_core.proofs.Exits.{if-ok}
use Rattle.vhost_frontend_core.proofs.AskedValues.{renamed, alone, roomy-one, table-one, is_plain, record-plain, kept-plain, all-ok}
use Rattle.vhost_frontend_core.proofs.internal.FrontendInternal.ask.Goals as goal

pub ask_planned-requires : goal.ask_planned-requires
ask_planned-requires g c = let e : is_plain (call_in c.args.call.now) ≡ true = grind arith in record-plain _ e

pub returns-in-SetMemTable : goal.returns-in-SetMemTable
returns-in-SetMemTable g c = renamed (ap call_in c.in-SetMemTable.is) (record { asked = table-one _ c.ask_table.ensures.asked; kept = c.ask_table.ensures.kept })

pub returns-in-GetConfig : goal.returns-in-GetConfig
returns-in-GetConfig g c = renamed (ap call_in c.in-GetConfig.is) (record { asked = roomy-one c.ask_get_config.ensures.asked refl; kept = c.ask_get_config.ensures.kept })

pub returns-in-SetConfig : goal.returns-in-SetConfig
returns-in-SetConfig g c = renamed (ap call_in c.in-SetConfig.is) (record { asked = alone c.ask_set_config.ensures; kept = if-ok c.ask_set_config.result tt })

pub returns-in-AddMemRegion : goal.returns-in-AddMemRegion
returns-in-AddMemRegion g c = renamed (ap call_in c.in-AddMemRegion.is) (record { asked = alone c.ask_region.ensures.asked; kept = c.ask_region.ensures.kept })

pub returns-in-GetShmemConfig : goal.returns-in-GetShmemConfig
returns-in-GetShmemConfig g c = renamed (ap call_in c.in-GetShmemConfig.is) (record { asked = roomy-one c.ask_shmem_to_place.ensures.asked refl; kept = c.ask_shmem_to_place.ensures.kept })

pub returns-in_default : goal.returns-in_default
returns-in_default g c =
    let e : is_plain (call_in c.args.call.now) ≡ true = grind arith in
    record { asked = alone c.ask_planned.ensures; kept = all-ok c.ask_planned.result (λ sent. kept-plain (call_in c.args.call.now) sent.awaited sent.kept e) }
