use Rattle.std.proofs.Common.{ap, ◌∙◌, lit≤}
use Rattle.vhost_message.specs.Text.{number_at}
use Rattle.vhost_message.proofs.Numbers.{number_behind}
use Rattle.vhost_gpu_message.specs.WordRecords.{dmabuf_scanout_from, dmabuf_scanout_of}
use Rattle.vhost_gpu_message.proofs.Slices.{words_of-take}
use Rattle.vhost_gpu_message.proofs.records.scanout.VhostUserGpuDMABUFScanout2ByteValued.decode.Goals as goal

pub returns-clause-read : goal.returns-clause-read
returns-clause-read c =
    let bytes = c.args.b.now in
    let scanout = c.decode.ensures.read ∙ ap dmabuf_scanout_of c.split_at.ensures.front ∙ ap dmabuf_scanout_from (words_of-take 10 40 bytes (lit≤ tt)) in
    let modifier = c.read_u64.ensures ∙ ap (number_at 0 8) c.split_at.ensures.back ∙ number_behind 40 0 8 bytes in
    λ i. record { dmabuf_scanout = scanout i; modifier = modifier i }
