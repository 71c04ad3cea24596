use Rattle.std.proofs.Common.{◌^◌, Err, refl, ap}
use Rattle.std.proofs.lemmas.Result.{err_from_is_err_and}
use Rattle.vhost_message.specs.Bits.{has_bit}
use Rattle.vhost_protocol.specs.Error.{Error, InactiveOperation}
use Rattle.vhost_protocol.specs.Features.{CONFIG}
use Rattle.vhost_dummy_backend.proofs.Ends.{failed}
use Rattle.vhost_dummy_backend.proofs.handler.DummyBackendReqHandlerVhostUserBackendReqHandlerMut.get_config.Goals as goal

pub returns-in_err-check_config : goal.returns-in_err-check_config
returns-in_err-check_config g c =
    let off = failed (has_bit c.args.self.now.acked_protocol_features CONFIG) (InactiveOperation (2 ^ CONFIG)) c.in_err-check_config.field-0.0 c.in_err-check_config.ensures in
    let q = err_from_is_err_and c.from_residual.result c.from_residual.ensures.1 in
    rw (off.0, q.1) (rw q.2 (ap (λ (e : Error). Err e) off.1, refl))
