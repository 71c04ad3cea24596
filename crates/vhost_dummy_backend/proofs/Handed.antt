-- What is left of the handles after one was asked for.
use Rattle.std.proofs.Common.{◌≡◌, List, Result, Ok, Err, ap}
use Rattle.std.specs.Prelude.{is_ok}
use Rattle.vhost_message.specs.declared.error.Error as declared
use Rattle.vhost_protocol.specs.Error.{seen_result}
use Rattle.vhost_dummy_backend.specs.Spares.{left}
use Rattle.vhost_dummy_backend.specs.declared.dummy.DummyBackendReqHandler.{DummyBackendReqHandler}

pub handed : {L H : Type 0} (device : DummyBackendReqHandler L H) (result : Result H declared.Error) (spare : List H) → spare ≡ left (is_ok result) device.spare
    → record device { spare = spare } ≡ record device { spare = left (is_ok (seen_result result)) device.spare }
handed {H = H} device (Ok file) spare is = ap (λ (spare : List H). record device { spare = spare }) is
handed {H = H} device (Err e) spare is = ap (λ (spare : List H). record device { spare = spare }) is
