use Rattle.std.proofs.Common.{◌==◌, not, bit_and, ap, ◌∙◌}
use Rattle.vhost_message.proofs.HeaderFlags.{has_bit-masked}
use Rattle.vhost_gpu_message.proofs.header.VhostUserGpuMsgHeader.is_reply.Goals as goal

pub returns : goal.returns
returns g c = ap (λ mask. not (bit_and c.args.self.now.flags mask == 0)) (c.bits.ensures tt) ∙ has_bit-masked c.args.self.now.flags 2
