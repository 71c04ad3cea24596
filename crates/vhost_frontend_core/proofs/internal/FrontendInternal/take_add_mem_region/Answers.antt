-- ADD_MEM_REG: its acknowledgement.
use Rattle.std.proofs.Common.{refl}
use Rattle.vhost_protocol.specs.FrontendCall.{AddMemRegion}
use Rattle.vhost_frontend_core.proofs.Taking.{succeeds, failed-as}
use Rattle.vhost_frontend_core.proofs.internal.FrontendInternal.take_add_mem_region.Goals as goal

pub returns-in-Ok-clause-acked : goal.returns-in-Ok-clause-acked
returns-in-Ok-clause-acked g c info is = succeeds (AddMemRegion info) _ c.args.sent.awaited refl c.take_ack.ensures.session is c.in-Ok.ensures.taken

pub returns-in-Err-clause-acked : goal.returns-in-Err-clause-acked
returns-in-Err-clause-acked g c info is = failed-as (AddMemRegion info) c.args.sent.awaited c.take_ack.ensures.session is c.in-Err.ensures.taken
