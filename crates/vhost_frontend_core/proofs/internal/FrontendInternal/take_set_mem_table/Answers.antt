-- SET_MEM_TABLE: its acknowledgement.
use Rattle.std.proofs.Common.{refl}
use Rattle.vhost_protocol.specs.FrontendCall.{SetMemTable}
use Rattle.vhost_frontend_core.proofs.Taking.{succeeds, failed-as}
use Rattle.vhost_frontend_core.proofs.internal.FrontendInternal.take_set_mem_table.Goals as goal

pub returns-in-Ok-clause-acked : goal.returns-in-Ok-clause-acked
returns-in-Ok-clause-acked g c infos is = succeeds (SetMemTable infos) _ c.args.sent.awaited refl c.take_ack.ensures.session is c.in-Ok.ensures.taken

pub returns-in-Err-clause-acked : goal.returns-in-Err-clause-acked
returns-in-Err-clause-acked g c infos is = failed-as (SetMemTable infos) c.args.sent.awaited c.take_ack.ensures.session is c.in-Err.ensures.taken
