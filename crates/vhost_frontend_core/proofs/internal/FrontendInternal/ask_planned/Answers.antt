-- A call by the table.
use Rattle.std.proofs.Common.{sym}
use Rattle.vhost_frontend_core.specs.Asking.Asks.{refuses}
use Rattle.vhost_frontend_core.proofs.Asking.{asked-as}
use Rattle.vhost_frontend_core.proofs.internal.FrontendInternal.ask_planned.Goals as goal

pub returns-in-Ok : goal.returns-in-Ok
returns-in-Ok g c = asked-as c.in-Ok.ensures c.carry_out.ensures

pub returns-in-Err : goal.returns-in-Err
returns-in-Err g c = refuses (sym c.in-Err.ensures)
