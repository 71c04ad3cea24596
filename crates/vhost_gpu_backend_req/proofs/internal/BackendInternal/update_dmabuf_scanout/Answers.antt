-- The buffer has changed, and the display has taken it.
use Rattle.std.proofs.Common.{refl}
use Rattle.vhost_protocol.specs.Gpu.{TheEmpty}
use Rattle.vhost_gpu_backend_req.proofs.Answered.{asks-map}
use Rattle.vhost_gpu_backend_req.proofs.internal.BackendInternal.update_dmabuf_scanout.Goals as goal

pub returns-in-Ok : goal.returns-in-Ok
returns-in-Ok g c = asks-map (λ x. tt) (c.in-Ok.ensures TheEmpty refl (λ bs. refl) refl)

pub returns-in-Err : goal.returns-in-Err
returns-in-Err g c = asks-map (λ x. tt) (c.in-Err.ensures TheEmpty refl (λ bs. refl) refl)
