use Rattle.std.proofs.Common.{◌≡◌, ◌+◌, ◌-◌, ◌*◌, ◌<◌, ◌≤◌, length, arith, subst, sym, ap, ◌∙◌, length-set}
use Rattle.std.proofs.lemmas.List.{take_all}
use Rattle.vhost_gpu_message.specs.Replies.{screens_of, ScreensFit}
use Rattle.vhost_gpu_message.specs.declared.limits.TheConstants.{VIRTIO_GPU_MAX_SCANOUTS}
use Rattle.vhost_gpu_message.proofs.ScreensAt.{screen-read, screens-fit}
use Rattle.vhost_gpu_message.proofs.records.replies.read_screens.Goals as goal

pub loop-i-preserved : goal.loop-i-preserved
loop-i-preserved c =
    let count : length c.loop-i.screens ≡ VIRTIO_GPU_MAX_SCANOUTS = c.loop-i.invariant.count in
    let within : c.loop-i.i < length c.loop-i.screens = omega arith in
    let room : 24 ≤ 24 * c.loop-i.i + 24 - 24 * c.loop-i.i = omega arith in
    record {
      count = length-set c.loop-i.screens c.loop-i.i c.decode.result ∙ count;
      read = screen-read c.loop-i.screens c.loop-i.i (24 * c.loop-i.i + 24 - 24 * c.loop-i.i) c.args.b.now c.decode.result within c.loop-i.invariant.read room c.decode.ensures.read;
      fits = screens-fit c.loop-i.screens c.loop-i.i c.decode.result within c.loop-i.invariant.fits c.decode.ensures.fits;
    }

pub returns-clause-read : goal.returns-clause-read
returns-clause-read c =
    let count : length c.loop-i.screens ≡ VIRTIO_GPU_MAX_SCANOUTS = c.loop-i.invariant.count in
    let ended : c.loop-i.i ≡ VIRTIO_GPU_MAX_SCANOUTS = omega arith in
    sym (take_all c.loop-i.i c.loop-i.screens (omega arith)) ∙ c.loop-i.invariant.read ∙ ap (λ n. screens_of n c.args.b.now) ended

pub returns-clause-fits : goal.returns-clause-fits
returns-clause-fits c =
    let count : length c.loop-i.screens ≡ VIRTIO_GPU_MAX_SCANOUTS = c.loop-i.invariant.count in
    let ended : c.loop-i.i ≡ VIRTIO_GPU_MAX_SCANOUTS = omega arith in
    subst ScreensFit (take_all c.loop-i.i c.loop-i.screens (omega arith)) c.loop-i.invariant.fits
