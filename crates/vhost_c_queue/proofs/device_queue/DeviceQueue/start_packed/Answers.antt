use Rattle.vhost_c_queue.proofs.device_queue.DeviceQueue.start_packed.Goals as goal

pub returns-clause-ok : goal.returns-clause-ok
returns-clause-ok c =
    let is = c.in_ok-rings.ensures in let new = c.in_ok-queue.ensures.ok in
    (c.in_ok-rings.rings, is.size, is.found, is.ring, is.driver, is.device, rw (← c.of_number.ensures, ← c.of_number-2.ensures) new)
