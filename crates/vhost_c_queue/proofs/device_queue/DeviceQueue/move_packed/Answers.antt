use Rattle.std.proofs.Common.{ap, ◌∙◌}
use Rattle.vhost_queue.specs.declared.packed_rings.PackedRings.{PackedRings}
use Rattle.vhost_c_queue.proofs.device_queue.DeviceQueue.move_packed.Goals as goal

pub returns-in_ok-set_rings-in-Packed-clause-ok : goal.returns-in_ok-set_rings-in-Packed-clause-ok
returns-in_ok-set_rings-in-Packed-clause-ok c =
    let is = c.in_ok-rings-in-Packed.ensures in let set = c.in_ok-set_rings-in-Packed.ensures in
    let size = is.size ∙ c.size-size.ensures.size ∙ ap (λ (r : PackedRings). r.size) c.rings.ensures in
    rw (c.in-Packed.is, set.ok.0) (is.found, is.ring, is.driver, is.device, size, set.negotiated.0, set.negotiated.1, set.ok.1)
