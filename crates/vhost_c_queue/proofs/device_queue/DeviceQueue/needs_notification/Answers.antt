use Rattle.vhost_c_queue.proofs.device_queue.DeviceQueue.needs_notification.Goals as goal

pub returns-in-Split-clause-tells : goal.returns-in-Split-clause-tells
returns-in-Split-clause-tells c =
    let is = c.needs_notification.ensures in rw c.in-Split.is (is.by_index, is.by_flags, is.kept)

pub returns-in-Packed-clause-tells : goal.returns-in-Packed-clause-tells
returns-in-Packed-clause-tells c =
    let is = c.needs_notification-in-Packed.ensures in rw c.in-Packed.is (is.by_place, is.by_flags, is.else_by_flags, is.kept)
