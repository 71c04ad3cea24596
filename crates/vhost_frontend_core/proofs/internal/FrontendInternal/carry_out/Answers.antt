-- What was planned is sent.
use Rattle.std.proofs.Common.{refl}
use Rattle.vhost_frontend_core.proofs.Asking.{went, stayed, written-as}
use Rattle.vhost_frontend_core.proofs.internal.FrontendInternal.carry_out.Goals as goal

pub returns-in-Ok : goal.returns-in-Ok
returns-in-Ok g c = went refl (written-as c.flags.ensures c.in-Ok.ensures.sent)

pub returns-in-Err : goal.returns-in-Err
returns-in-Err g c = stayed refl c.send_planned.ensures.session (written-as c.flags.ensures c.in-Err.ensures.sent)
