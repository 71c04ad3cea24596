-- A screen's description of itself.
use Rattle.std.proofs.Common.{refl}
use Rattle.vhost_protocol.specs.Gpu.{TheEdid}
use Rattle.vhost_gpu_backend_req.proofs.internal.BackendInternal.get_edid.Goals as goal

pub returns : goal.returns
returns g c = c.ask.ensures TheEdid refl (λ bs. refl) refl
