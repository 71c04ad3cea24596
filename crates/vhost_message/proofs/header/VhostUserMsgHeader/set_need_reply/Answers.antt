use Rattle.std.proofs.Common.{ap, ◌∙◌, lit<}
use Rattle.vhost_message.specs.MsgHeader.{fields_of}
use Rattle.vhost_message.proofs.HeaderFlags.{with_bit-written}
use Rattle.vhost_message.proofs.header.VhostUserMsgHeader.set_need_reply.Goals as goal

pub returns : goal.returns
returns g c =
    c.set_flag.ensures.flags
    ∙ ap (λ flags. record (fields_of c.args.self.now) { flags = flags }) (with_bit-written c.args.self.now.flags 3 c.set_flag.ensures.fits (lit< tt) c.args.need_reply)
