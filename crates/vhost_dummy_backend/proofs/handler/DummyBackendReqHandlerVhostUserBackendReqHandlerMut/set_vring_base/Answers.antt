use Rattle.std.proofs.Common.{refl, ap}
use Rattle.std.proofs.lemmas.Bool.{le-ltb, lt-ltb}
use Rattle.vhost_dummy_backend.specs.declared.dummy.TheConstants.{MAX_VRING_NUM}
use Rattle.vhost_protocol.specs.Error.{seen}
use Rattle.vhost_dummy_backend.proofs.Ends.{fails}
use Rattle.vhost_dummy_backend.proofs.Rings.{within}
use Rattle.vhost_dummy_backend.proofs.handler.DummyBackendReqHandlerVhostUserBackendReqHandlerMut.set_vring_base.Goals as goal

pub bounds-self-ring : goal.bounds-self-ring
bounds-self-ring g c = let found = c.in_ok-ring.ensures.found in within _ _ _ found.0 found.1

pub returns-in_err-ring : goal.returns-in_err-ring
returns-in_err-ring g c = let missing = c.in_err-ring.ensures.missing in fails _ _ _ _ _ _ _ _ missing.0 (ap seen missing.1) c.from_residual.ensures.1

pub returns-then-base-ge-MAX_VRING_NUM : goal.returns-then-base-ge-MAX_VRING_NUM
returns-then-base-ge-MAX_VRING_NUM g c = rw (c.in_ok-ring.ensures.found.0, le-ltb c.args.base MAX_VRING_NUM c.if-base-ge-MAX_VRING_NUM.true) (refl, refl)

pub returns : goal.returns
returns g c =
    let found = c.in_ok-ring.ensures.found in
    rw (found.0, lt-ltb c.args.base MAX_VRING_NUM c.if-base-ge-MAX_VRING_NUM.false) (rw found.1 (refl, refl))
