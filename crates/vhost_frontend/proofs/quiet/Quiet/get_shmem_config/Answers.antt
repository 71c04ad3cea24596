-- GET_SHMEM_CONFIG whole.
use Rattle.std.proofs.Common.{refl}
use Rattle.vhost_frontend.proofs.Whole.{replied}
use Rattle.vhost_frontend.proofs.quiet.Quiet.get_shmem_config.Goals as goal

pub returns-in-Ok : goal.returns-in-Ok
returns-in-Ok g c = replied c.ask_get_shmem_config.new.self refl c.in-Ok.ensures c.take_get_shmem_config.ensures.taken
