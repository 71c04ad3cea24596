use Rattle.std.proofs.Common.{◌≡◌, length, take}
use Rattle.vhost_gpu_message.specs.Replies.{screens_of, ScreensFit}
use Rattle.vhost_gpu_message.specs.declared.limits.TheConstants.{VIRTIO_GPU_MAX_SCANOUTS}
use Rattle.vhost_gpu_message.proofs.records.replies.read_screens.Given as goal

abbrev pub invariant-loop-i : goal.invariant-loop-i
invariant-loop-i l = record {
  count : length l.screens ≡ VIRTIO_GPU_MAX_SCANOUTS;
  read : take l.i l.screens ≡ screens_of l.i l.b;
  fits : ScreensFit (take l.i l.screens);
}
