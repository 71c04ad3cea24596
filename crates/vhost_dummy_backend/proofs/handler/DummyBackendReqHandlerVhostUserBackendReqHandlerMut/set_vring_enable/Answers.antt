use Rattle.std.proofs.Common.{refl, ap, sym, ◌∙◌}
use Rattle.vhost_protocol.specs.Error.{seen}
use Rattle.vhost_dummy_backend.proofs.Ends.{fails, passes}
use Rattle.vhost_dummy_backend.proofs.Rings.{within}
use Rattle.vhost_dummy_backend.proofs.handler.DummyBackendReqHandlerVhostUserBackendReqHandlerMut.set_vring_enable.Goals as goal

pub bounds-self-ring : goal.bounds-self-ring
bounds-self-ring g c = let found = c.in_ok-ring.ensures.found in within _ _ _ found.0 found.1

pub returns-then-not-has_bit : goal.returns-then-not-has_bit
returns-then-not-has_bit g c = rw (sym c.has_bit.ensures ∙ c.if-not-has_bit.true) (refl, refl)

pub returns-in_err-ring : goal.returns-in_err-ring
returns-in_err-ring g c =
    let missing = c.in_err-ring.ensures.missing in
    passes _ _ _ _ _ _ _ _ (sym c.has_bit.ensures ∙ c.if-not-has_bit.false) (fails _ _ _ _ _ _ _ _ missing.0 (ap seen missing.1) c.from_residual.ensures.1)

pub returns : goal.returns
returns g c = let found = c.in_ok-ring.ensures.found in rw (sym c.has_bit.ensures ∙ c.if-not-has_bit.false, found.0) (rw found.1 (refl, refl))
