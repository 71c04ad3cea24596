-- GET_SHMEM_CONFIG: what is asked.
use Rattle.std.proofs.Common.{sym}
use Rattle.vhost_protocol.specs.FrontendCall.{GetShmemConfig}
use Rattle.vhost_frontend_core.specs.Asking.Asks.{refuses}
use Rattle.vhost_frontend_core.specs.Asking.AsksWithRoom.{roomy}
use Rattle.vhost_frontend_core.proofs.Asking.{asked-as-with-room}
use Rattle.vhost_frontend_core.proofs.Awaiting.{awaits-allowed}
use Rattle.vhost_frontend_core.proofs.internal.FrontendInternal.ask_shmem_to_place.Goals as goal

pub ask_with_place-requires : goal.ask_with_place-requires
ask_with_place-requires g c = awaits-allowed _ GetShmemConfig _ _ _ (sym c.in-Ok.ensures)

pub returns-in-Ok-clause-asked : goal.returns-in-Ok-clause-asked
returns-in-Ok-clause-asked g c = asked-as-with-room c.in-Ok.ensures c.ask_with_place.ensures.asked

pub returns-in-Err-clause-asked : goal.returns-in-Err-clause-asked
returns-in-Err-clause-asked g c = roomy (refuses (sym c.in-Err.ensures))
