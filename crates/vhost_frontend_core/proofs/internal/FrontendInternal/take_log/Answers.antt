-- SET_LOG_BASE: its reply.
use Rattle.vhost_frontend_core.proofs.TakingLog.{log-came, log-missing, log-any}
use Rattle.vhost_frontend_core.proofs.internal.FrontendInternal.take_log.Goals as goal

pub returns-in-Ok-clause-taken : goal.returns-in-Ok-clause-taken
returns-in-Ok-clause-taken g c base region = log-came base region c.in-Vhost.is c.take_plain_reply.ensures.session c.in-Ok.ensures.taken

pub returns-in-Err-clause-taken : goal.returns-in-Err-clause-taken
returns-in-Err-clause-taken g c base region = log-missing base region c.in-Vhost.is c.take_plain_reply.ensures.session c.in-Err.ensures.taken

pub returns-in-Standard-clause-taken : goal.returns-in-Standard-clause-taken
returns-in-Standard-clause-taken g c base region = log-any base region c.in-Standard.is c.take_any_reply.ensures.session c.take_any_reply.ensures.taken
