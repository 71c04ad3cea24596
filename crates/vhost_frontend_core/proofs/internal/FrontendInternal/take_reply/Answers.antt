-- A reply to a request.
use Rattle.std.proofs.Common.{sym, ◌∙◌}
use Rattle.vhost_frontend_core.specs.Taking.Awaits.{is_reply, is_request}
use Rattle.vhost_frontend_core.proofs.internal.FrontendInternal.take_reply.Goals as goal

pub returns-then-is_reply-clause-taken : goal.returns-then-is_reply-clause-taken
returns-then-is_reply-clause-taken g c = is_reply (sym c.is_reply.ensures ∙ c.if-is_reply.true)

pub returns-clause-taken : goal.returns-clause-taken
returns-clause-taken g c = is_request (sym c.is_reply.ensures ∙ c.if-is_reply.false) c.recv_record.ensures.received
