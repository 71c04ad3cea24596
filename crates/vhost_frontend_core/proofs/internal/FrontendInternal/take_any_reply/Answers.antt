-- A reply of any size.
use Rattle.std.proofs.Common.{sym, ◌∙◌}
use Rattle.vhost_connection.proofs.Handed.{hands-none, hands-some}
use Rattle.vhost_frontend_core.specs.Taking.AwaitsAny.{any_for_reply, any, any_crowded, any_missing}
use Rattle.vhost_frontend_core.proofs.Exits.{err_is}
use Rattle.vhost_frontend_core.proofs.internal.FrontendInternal.take_any_reply.Goals as goal

pub returns-then-is_reply-clause-taken : goal.returns-then-is_reply-clause-taken
returns-then-is_reply-clause-taken g c = any_for_reply (sym c.is_reply.ensures ∙ c.if-is_reply.true)

pub returns-in_err-handles-clause-taken : goal.returns-in_err-handles-clause-taken
returns-in_err-handles-clause-taken g c = rw (err_is _ _ c.from_residual.ensures.1) (any_missing (sym c.is_reply.ensures ∙ c.if-is_reply.false) c.in_err-handles.ensures)

pub returns-then-is_some-clause-taken : goal.returns-then-is_some-clause-taken
returns-then-is_some-clause-taken g c =
    let x = c.in_ok-handles.ensures in
    any_crowded x.0 (sym c.is_reply.ensures ∙ c.if-is_reply.false) x.1 (hands-some c.in_ok-handles.handles x.0.handles x.2 (sym c.is_some.ensures ∙ c.if-is_some.true))

pub returns-clause-taken : goal.returns-clause-taken
returns-clause-taken g c =
    let x = c.in_ok-handles.ensures in
    any x.0 (sym c.is_reply.ensures ∙ c.if-is_reply.false) x.1 (hands-none c.in_ok-handles.handles x.0.handles x.2 (sym c.is_some.ensures ∙ c.if-is_some.false))
