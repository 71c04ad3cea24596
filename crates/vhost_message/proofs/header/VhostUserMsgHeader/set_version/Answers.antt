use Rattle.std.proofs.Common.{◌<◌, ◌^◌, ◌-◌, bit_and, bit_or, ap, ◌∙◌, rules}
use Rattle.vhost_message.specs.MsgHeader.{fields_of}
use Rattle.vhost_message.proofs.HeaderFlags.{version-written}
use Rattle.vhost_message.proofs.header.VhostUserMsgHeader.set_version.Goals as goal

pub returns : goal.returns
returns g c =
    let fits : c.args.self.now.flags < 2 ^ 32 = search rules in
    ap (λ mask. record (fields_of c.args.self.now) { flags = bit_or (bit_and c.args.self.now.flags (2 ^ 32 - 1 - mask)) (bit_and c.args.version mask) }) (c.bits-mask.ensures tt)
    ∙ ap (λ flags. record (fields_of c.args.self.now) { flags = flags }) (version-written c.args.self.now.flags c.args.version fits)
