use Rattle.std.proofs.Common.{◌≡◌, ◌≤◌, take, length}
use Rattle.vhost_c_queue.proofs.Kept.{Kept}
use Rattle.vhost_c_queue.specs.DeviceQueue.{regions}
use Rattle.vhost_c_queue.specs.Walking.{Walks, chain_of, most_segments}
use Rattle.vhost_queue.proofs.Followed.{remaining}
use Rattle.vhost_c_queue.proofs.device_queue.DeviceQueue.walk.Given as goal

abbrev pub invariant-loop-taken : goal.invariant-loop-taken
invariant-loop-taken l = record {
  walks : Walks (regions l.fn.self) l.fn.copies l.fn.self.ring l.taken (take l.count l.segments) l.self.ring;
  kept : Kept (regions l.fn.self) (most_segments (chain_of l.fn.self.ring)) (take l.count l.segments) (chain_of l.self.ring);
  memory : regions l.self ≡ regions l.fn.self;
  most : l.taken ≤ length l.copies;
  few : l.count ≤ length l.segments;
  len : length l.segments ≡ length l.fn.segments;
}

abbrev pub decreases-loop-taken : goal.decreases-loop-taken
decreases-loop-taken l = remaining (chain_of l.self.ring)
