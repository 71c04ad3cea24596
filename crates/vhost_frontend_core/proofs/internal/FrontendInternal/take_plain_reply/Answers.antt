-- A reply without a handle.
use Rattle.std.proofs.Common.{sym, ◌∙◌}
use Rattle.vhost_frontend_core.specs.Taking.AwaitsAlone.{absent}
use Rattle.vhost_frontend_core.proofs.Exits.{err_is}
use Rattle.vhost_frontend_core.proofs.Taking.{alone-comes, alone-crowded}
use Rattle.vhost_frontend_core.proofs.internal.FrontendInternal.take_plain_reply.Goals as goal

pub returns-in_err-body-clause-taken : goal.returns-in_err-body-clause-taken
returns-in_err-body-clause-taken g c = rw (err_is _ _ c.from_residual.ensures.1) (absent c.in_err-body.ensures.taken)

pub returns-then-is_some-clause-taken : goal.returns-then-is_some-clause-taken
returns-then-is_some-clause-taken g c = alone-crowded c.in_ok-body.handles c.in_ok-body.ensures.taken (sym c.is_some.ensures ∙ c.if-is_some.true)

pub returns-clause-taken : goal.returns-clause-taken
returns-clause-taken g c = alone-comes c.in_ok-body.handles c.in_ok-body.ensures.taken (sym c.is_some.ensures ∙ c.if-is_some.false)
