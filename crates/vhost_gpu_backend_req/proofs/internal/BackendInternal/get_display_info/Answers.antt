-- The screens.
use Rattle.std.proofs.Common.{refl}
use Rattle.vhost_protocol.specs.Gpu.{TheDisplayInfo}
use Rattle.vhost_gpu_backend_req.proofs.internal.BackendInternal.get_display_info.Goals as goal

pub returns : goal.returns
returns g c = c.ask.ensures TheDisplayInfo refl (λ bs. refl) refl
