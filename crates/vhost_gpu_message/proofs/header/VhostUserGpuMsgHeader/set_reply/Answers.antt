use Rattle.std.proofs.Common.{ap, ◌∙◌, lit<}
use Rattle.vhost_message.proofs.HeaderFlags.{with_bit-written}
use Rattle.vhost_gpu_message.specs.GpuHeader.{gpu_fields_of}
use Rattle.vhost_gpu_message.proofs.header.VhostUserGpuMsgHeader.set_reply.Goals as goal

pub returns : goal.returns
returns g c =
    c.set_flag.ensures.flags
    ∙ ap (λ flags. record (gpu_fields_of c.args.self.now) { flags = flags }) (with_bit-written c.args.self.now.flags 2 c.set_flag.ensures.fits (lit< tt) c.args.is_reply)
