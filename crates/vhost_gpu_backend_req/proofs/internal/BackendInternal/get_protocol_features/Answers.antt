-- The features of the display's side.
use Rattle.std.proofs.Common.{refl}
use Rattle.vhost_protocol.specs.Gpu.{TheFeatures}
use Rattle.vhost_gpu_backend_req.proofs.internal.BackendInternal.get_protocol_features.Goals as goal

pub returns : goal.returns
returns g c = c.ask.ensures TheFeatures refl (λ bs. refl) refl
