use Rattle.std.proofs.Common.{◌≡◌, ◌≤◌, ◌-◌, take, length}
use Rattle.vhost_c_queue.specs.DeviceQueue.{regions}
use Rattle.vhost_c_queue.specs.Using.{Fits, UsesMany}
use Rattle.vhost_c_queue.proofs.device_queue.DeviceQueue.add_used_many.Given as goal

abbrev pub invariant-loop-done : goal.invariant-loop-done
invariant-loop-done l = record {
  used : UsesMany l.ids l.lens l.fn.self.ring l.done (take l.done l.used) l.self.ring;
  memory : regions l.self ≡ regions l.fn.self;
  most : l.done ≤ length l.ids;
  fits : Fits l.ids l.lens (length l.used);
  len : length l.used ≡ length l.fn.used;
}

abbrev pub decreases-loop-done : goal.decreases-loop-done
decreases-loop-done l = length l.ids - l.done
