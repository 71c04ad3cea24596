-- GET_SHMEM_CONFIG: its reply, in its place.
use Rattle.std.proofs.Common.{refl}
use Rattle.vhost_frontend_core.proofs.Taking.{shown-as, missing-as}
use Rattle.vhost_frontend_core.proofs.internal.FrontendInternal.take_get_shmem_config_to_place.Goals as goal

pub returns-in-Ok-clause-taken : goal.returns-in-Ok-clause-taken
returns-in-Ok-clause-taken g c kept = shown-as _ refl (rw c.new.ensures at c.in-Ok.ensures.taken)

pub returns-in-Err-clause-taken : goal.returns-in-Err-clause-taken
returns-in-Err-clause-taken g c kept = missing-as (rw c.new.ensures at c.in-Err.ensures.taken)
