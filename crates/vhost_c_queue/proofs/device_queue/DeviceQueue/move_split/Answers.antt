use Rattle.std.proofs.Common.{ap, ◌∙◌}
use Rattle.vhost_queue.specs.declared.rings.Rings.{Rings}
use Rattle.vhost_c_queue.proofs.device_queue.DeviceQueue.move_split.Goals as goal

pub returns-in_ok-set_rings-in-Split-clause-ok : goal.returns-in_ok-set_rings-in-Split-clause-ok
returns-in_ok-set_rings-in-Split-clause-ok c =
    let is = c.in_ok-rings-in-Split.ensures in let set = c.in_ok-set_rings-in-Split.ensures in
    let size = is.size ∙ c.size-size.ensures ∙ ap (λ (r : Rings). r.size) c.rings.ensures in
    rw (c.in-Split.is, set.ok.0) (is.found, is.table, is.avail, is.used, size, set.negotiated.0, set.negotiated.1, set.ok.1)
