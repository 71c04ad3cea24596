use Rattle.std.proofs.Common.{◌≡◌, false, refl, ap}
use Rattle.std.specs.Prelude.{◌&&◌, nat_le}
use Rattle.vhost_dummy_backend.specs.declared.dummy.TheConstants.{MAX_VRING_NUM}
use Rattle.vhost_protocol.specs.Error.{seen}
use Rattle.vhost_dummy_backend.proofs.Ends.{fails}
use Rattle.vhost_dummy_backend.proofs.handler.DummyBackendReqHandlerVhostUserBackendReqHandlerMut.set_vring_num.Goals.{then-num-eq0-via-then-num-eq0, then-num-eq0-via-else-num-eq0+then-num-gt-MAX_VRING_NUM}
use Rattle.vhost_dummy_backend.proofs.Rings.{fitting, great, none, within}
use Rattle.vhost_dummy_backend.proofs.handler.DummyBackendReqHandlerVhostUserBackendReqHandlerMut.set_vring_num.Goals as goal

pub bounds-self-ring : goal.bounds-self-ring
bounds-self-ring g c = let found = c.in_ok-ring.ensures.found in within _ _ _ found.0 found.1

pub returns-in_err-ring : goal.returns-in_err-ring
returns-in_err-ring g c = let missing = c.in_err-ring.ensures.missing in fails _ _ _ _ _ _ _ _ missing.0 (ap seen missing.1) c.from_residual.ensures.1

pub returns-then-num-eq0 : goal.returns-then-num-eq0
returns-then-num-eq0 g c =
    let is : (nat_le 1 c.args.num && nat_le c.args.num MAX_VRING_NUM) ≡ false = elim c.then-num-eq0.branch [
      | then-num-eq0-via-then-num-eq0 w ↦ none c.args.num w.if-num-eq0.true
      | then-num-eq0-via-else-num-eq0+then-num-gt-MAX_VRING_NUM w ↦ great c.args.num w.if-num-gt-MAX_VRING_NUM.true
    ] in
    rw (c.in_ok-ring.ensures.found.0, is) (refl, refl)

pub returns : goal.returns
returns g c =
    let found = c.in_ok-ring.ensures.found in
    rw (found.0, fitting c.args.num c.if-num-eq0.false c.if-num-gt-MAX_VRING_NUM.false) (rw found.1 (refl, refl))
