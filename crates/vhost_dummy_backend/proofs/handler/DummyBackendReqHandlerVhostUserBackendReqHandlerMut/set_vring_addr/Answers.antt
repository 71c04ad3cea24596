use Rattle.std.proofs.Common.{refl, ap}
use Rattle.vhost_protocol.specs.Error.{seen}
use Rattle.vhost_dummy_backend.proofs.Ends.{fails, passes}
use Rattle.vhost_dummy_backend.proofs.handler.DummyBackendReqHandlerVhostUserBackendReqHandlerMut.set_vring_addr.Goals as goal

pub returns-in_err-ring : goal.returns-in_err-ring
returns-in_err-ring g c = let missing = c.in_err-ring.ensures.missing in fails _ _ _ _ _ _ _ _ missing.0 (ap seen missing.1) c.from_residual.ensures.1

pub returns : goal.returns
returns g c = let found = c.in_ok-ring.ensures.found in passes _ _ _ _ _ _ _ _ found.0 (refl, refl)
