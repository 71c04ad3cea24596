use Rattle.std.proofs.Common.{ap, arith}
use Rattle.vhost_protocol.specs.Error.{seen}
use Rattle.vhost_dummy_backend.proofs.Ends.{fails}
use Rattle.vhost_dummy_backend.proofs.Rings.{within}
use Rattle.vhost_dummy_backend.proofs.handler.DummyBackendReqHandlerVhostUserBackendReqHandlerMut.get_vring_base.Goals as goal

pub bounds-self-ring : goal.bounds-self-ring
bounds-self-ring g c = let found = c.in_ok-ring.ensures.found in within _ _ _ found.0 found.1

pub bounds-self-ring-2 : goal.bounds-self-ring-2
bounds-self-ring-2 g c = let found = c.in_ok-ring.ensures.found in within _ _ _ found.0 found.1

pub offset_bounds-self-ring : goal.offset_bounds-self-ring
offset_bounds-self-ring g c = let found = c.in_ok-ring.ensures.found in omega (arith, within _ _ _ found.0 found.1)

pub returns-in_err-ring : goal.returns-in_err-ring
returns-in_err-ring g c = let missing = c.in_err-ring.ensures.missing in fails _ _ _ _ _ _ _ _ missing.0 (ap seen missing.1) c.from_residual.ensures.1
