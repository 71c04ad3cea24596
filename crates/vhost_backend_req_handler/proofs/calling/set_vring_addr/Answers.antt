-- The flags as bits.
use Rattle.std.proofs.Common.{◌≡◌, subst}
use Rattle.vhost_message.specs.FlagBits.{vring_addr_bits}
use Rattle.vhost_protocol.specs.DeviceCall.{SetVringAddr}
use Rattle.vhost_protocol.specs.Error.{seen_result}
use Rattle.vhost_backend_req_handler.proofs.calling.set_vring_addr.Goals as goal

pub returns : goal.returns
returns g c =
    let same : vring_addr_bits c.from_bits_retain-flags.result ≡ c.args.ring.flags = c.from_bits_retain-flags.ensures tt in
    subst (λ n. g.D.VhostUserBackendReqHandlerMut.gives c.args.device.now (SetVringAddr (record (c.args.ring) { flags = n })) (seen_result c.set_vring_addr.result) c.set_vring_addr.new.self) same c.set_vring_addr.ensures
