-- The flags as bits.
use Rattle.std.proofs.Common.{◌≡◌, subst}
use Rattle.vhost_message.specs.FlagBits.{config_bits}
use Rattle.vhost_message.specs.declared.records.config.VhostUserConfig.{VhostUserConfig}
use Rattle.vhost_protocol.specs.DeviceCall.{SetConfig}
use Rattle.vhost_protocol.specs.Error.{seen_result}
use Rattle.vhost_backend_req_handler.proofs.calling.set_config.Goals as goal

pub returns : goal.returns
returns g c =
    let same : config_bits c.from_bits_retain-flags.result ≡ c.config-config.result.flags = c.from_bits_retain-flags.ensures tt in
    let gave = subst (λ n. g.D.VhostUserBackendReqHandlerMut.gives c.args.device.now (SetConfig c.config-config.result.offset c.args.bytes.now n) (seen_result c.set_config.result) c.set_config.new.self) same c.set_config.ensures in
    subst (λ (x : VhostUserConfig). g.D.VhostUserBackendReqHandlerMut.gives c.args.device.now (SetConfig x.offset c.args.bytes.now x.flags) (seen_result c.set_config.result) c.set_config.new.self) c.config-config.ensures.config gave
