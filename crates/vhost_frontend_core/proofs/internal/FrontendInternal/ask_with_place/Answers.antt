-- GET_SHMEM_CONFIG: the request goes out, and the place is kept.
use Rattle.std.proofs.Common.{ap}
use Rattle.vhost_protocol.specs.Ask.{Sends}
use Rattle.vhost_frontend_core.specs.Asking.AsksWithRoom.{roomy, no_room}
use Rattle.vhost_frontend_core.specs.Plan.{written}
use Rattle.vhost_frontend_core.specs.Session.{frontend_of}
use Rattle.vhost_frontend_core.proofs.Asking.{keeping}
use Rattle.vhost_frontend_core.proofs.internal.FrontendInternal.ask_with_place.Goals as goal

pub returns-in_default-clause-asked : goal.returns-in_default-clause-asked
returns-in_default-clause-asked g c = no_room (ap (λ a. Sends (written c.args.plan.now) a (frontend_of c.args.plan.now.next)) c.requires)

pub returns-in-Ok-carry_out-clause-asked : goal.returns-in-Ok-carry_out-clause-asked
returns-in-Ok-carry_out-clause-asked g c = roomy (keeping _ c.in-Ok-carry_out.ensures)

pub returns-in-Err-clause-asked : goal.returns-in-Err-clause-asked
returns-in-Err-clause-asked g c = roomy c.in-Err.ensures
