use Rattle.std.proofs.Common.{refl, ap, arith}
use Rattle.vhost_protocol.specs.Error.{seen}
use Rattle.vhost_dummy_backend.proofs.Ends.{fails, passes}
use Rattle.vhost_dummy_backend.proofs.Rings.{within}
use Rattle.vhost_dummy_backend.proofs.handler.DummyBackendReqHandlerVhostUserBackendReqHandlerMut.set_vring_kick.Goals as goal

pub bounds-self-ring : goal.bounds-self-ring
bounds-self-ring g c = let found = c.in_ok-ring.ensures.found in within _ _ _ found.0 found.1

pub offset_bounds-self-ring : goal.offset_bounds-self-ring
offset_bounds-self-ring g c = let found = c.in_ok-ring.ensures.found in omega (arith, within _ _ _ found.0 found.1)

pub listed : goal.listed
listed g c = let found = c.in_ok-ring.ensures.found in omega (arith, within _ _ _ found.0 found.1)

pub returns-in_err-ring : goal.returns-in_err-ring
returns-in_err-ring g c = let missing = rw c.into.ensures at c.in_err-ring.ensures.missing in fails _ _ _ _ _ _ _ _ missing.0 (ap seen missing.1) c.from_residual.ensures.1

pub returns : goal.returns
returns g c = let found = rw c.into.ensures at c.in_ok-ring.ensures.found in passes _ _ _ _ _ _ _ _ found.0 (rw found.1 (refl, refl))
