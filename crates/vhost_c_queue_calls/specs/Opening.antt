-- How a queue is opened.
use Rattle.std.specs.Prelude.{◌≡◌, ℕ, Option, Some, None, []}
use Rattle.vhost_c_queue.specs.DeviceQueue.{regions}
use Rattle.vhost_c_queue.specs.declared.device_queue.DeviceQueue.{DeviceQueue}
use Rattle.vhost_c_queue.specs.declared.device_queue.Ring.TheVariants.{Stopped}

-- A queue was opened; or there was one; or memory was refused.
pub data Opens : Option DeviceQueue → ℕ → Option DeviceQueue → Type 0 where
  opened : {s : DeviceQueue} → regions s ≡ [] → s.ring ≡ Stopped → Opens None 0 (Some s)
  was_open : {s : DeviceQueue} → Opens (Some s) 102 (Some s)
  no_room : Opens None 24 None
