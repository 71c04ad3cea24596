-- A call that is only acknowledged.
use Rattle.std.proofs.Common.{sym}
use Rattle.vhost_frontend_core.proofs.Taking.{acked}
use Rattle.vhost_frontend_core.proofs.internal.FrontendInternal.take_done.Goals as goal

pub returns-clause-taken : goal.returns-clause-taken
returns-clause-taken g c call plain same is = acked call (sym plain) same is c.take_ack.ensures.session c.take_ack.ensures.taken
