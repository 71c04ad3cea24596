use Rattle.std.proofs.Common.{ap, ◌∙◌}
use Rattle.vhost_gpu_message.specs.CtrlHdr.{ctrl_hdr_of}
use Rattle.vhost_gpu_message.specs.Replies.{screens_of}
use Rattle.vhost_gpu_message.specs.declared.limits.TheConstants.{VIRTIO_GPU_MAX_SCANOUTS}
use Rattle.vhost_gpu_message.proofs.ScreensAt.{ctrl_hdr_of-take}
use Rattle.vhost_gpu_message.proofs.records.replies.VirtioGpuRespDisplayInfoByteValued.decode.Goals as goal

pub returns-clause-read : goal.returns-clause-read
returns-clause-read c =
    let bytes = c.args.b.now in
    let hdr = c.decode.ensures.read ∙ ap ctrl_hdr_of c.split_at.ensures.front ∙ ctrl_hdr_of-take bytes in
    let screens = c.read_screens.ensures.read ∙ ap (screens_of VIRTIO_GPU_MAX_SCANOUTS) c.split_at.ensures.back in
    λ i. record { hdr = hdr i; pmodes = screens i }
