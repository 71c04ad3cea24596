-- The flags as bits.
use Rattle.std.proofs.Common.{◌≡◌, subst}
use Rattle.vhost_message.specs.FlagBits.{config_bits}
use Rattle.vhost_message.specs.declared.records.config.VhostUserConfig.{VhostUserConfig}
use Rattle.vhost_protocol.specs.DeviceCall.{GetConfig}
use Rattle.vhost_backend_req_handler_core.specs.Concluding.{seen_bytes}
use Rattle.vhost_backend_req_handler.proofs.calling.get_config.Goals as goal

pub returns : goal.returns
returns g c =
    let same : config_bits c.from_bits_retain-flags.result ≡ c.config-config.result.flags = c.from_bits_retain-flags.ensures tt in
    let gave = subst (λ n. g.D.VhostUserBackendReqHandlerMut.gives c.args.device.now (GetConfig c.config-config.result.offset c.config-config.result.size n) (seen_bytes c.get_config.result) c.get_config.new.self) same c.get_config.ensures in
    subst (λ (x : VhostUserConfig). g.D.VhostUserBackendReqHandlerMut.gives c.args.device.now (GetConfig x.offset x.size x.flags) (seen_bytes c.get_config.result) c.get_config.new.self) c.config-config.ensures.config gave
