use Rattle.vhost_c_queue.proofs.device_queue.DeviceQueue.start_split.Goals as goal

pub returns-clause-ok : goal.returns-clause-ok
returns-clause-ok c = let is = c.in_ok-rings.ensures in (c.in_ok-rings.rings, is.size, is.found, is.table, is.avail, is.used, c.in_ok-queue.ensures.ok)
