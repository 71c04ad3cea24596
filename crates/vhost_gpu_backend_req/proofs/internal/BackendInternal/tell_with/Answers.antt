-- A handle goes along, if there is one.
use Rattle.vhost_gpu_backend_req.proofs.internal.BackendInternal.tell_with.Goals as goal

pub returns-in-Some : goal.returns-in-Some
returns-in-Some g c long = rw c.in-Some.is (c.tell.ensures long)

pub returns-in-None : goal.returns-in-None
returns-in-None g c long = rw c.in-None.is (c.tell-in-None.ensures long)
