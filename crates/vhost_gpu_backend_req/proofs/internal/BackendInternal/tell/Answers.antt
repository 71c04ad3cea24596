-- A message goes out, and nothing is awaited.
use Rattle.std.proofs.Common.{refl}
use Rattle.std.specs.Prelude.{None}
use Rattle.vhost_gpu_backend_req.specs.Asking.Asks.{unsent, asked_for}
use Rattle.vhost_gpu_backend_req.proofs.internal.BackendInternal.tell.Goals as goal

pub returns-in-Ok : goal.returns-in-Ok
returns-in-Ok g c long =
    let s = c.in-Ok.ensures None long in
    asked_for s.1 (refl, refl) s.2

pub returns-in-Err : goal.returns-in-Err
returns-in-Err g c long = unsent (c.in-Err.ensures None long)
