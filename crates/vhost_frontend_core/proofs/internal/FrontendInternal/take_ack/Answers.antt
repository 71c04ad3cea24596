-- An acknowledgement, where one is awaited.
use Rattle.std.proofs.Common.{ap}
use Rattle.vhost_frontend_core.specs.Frontend.{session_of, awaits}
use Rattle.vhost_frontend_core.specs.Taking.Acks.{unasked, asked_for}
use Rattle.vhost_frontend_core.specs.declared.internal.FrontendInternal.{FrontendInternal}
use Rattle.vhost_frontend_core.proofs.internal.FrontendInternal.take_ack.Goals as goal

pub returns-in-Nobody-clause-taken : goal.returns-in-Nobody-clause-taken
returns-in-Nobody-clause-taken g c = unasked c.in-Nobody.is

pub returns-in_default : goal.returns-in_default
returns-in_default g c = record {
  session = ap (λ (x : FrontendInternal _ _). session_of x) c.recv_ack.ensures.same;
  quiet = ap (λ (x : FrontendInternal _ _). awaits x) c.recv_ack.ensures.same;
  taken = asked_for c.in_default.not-Nobody c.recv_ack.ensures.received;
}
