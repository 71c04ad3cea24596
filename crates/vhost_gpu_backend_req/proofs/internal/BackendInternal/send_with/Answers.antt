-- A handle goes along, if there is one.
use Rattle.std.proofs.Common.{[], refl}
use Rattle.vhost_gpu_backend_req.proofs.internal.BackendInternal.send_with.Goals as goal

pub returns-in-Some : goal.returns-in-Some
returns-in-Some g c awaited long = rw c.in-Some.is (c.send_front.ensures [] awaited refl long)

pub returns-in-None : goal.returns-in-None
returns-in-None g c awaited long = rw c.in-None.is (c.send_front-in-None.ensures [] awaited refl long)
