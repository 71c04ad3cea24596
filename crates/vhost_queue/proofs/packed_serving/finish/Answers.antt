use Rattle.std.proofs.Common.{◌∙◌}
use Rattle.vhost_queue.proofs.Touching.{in_driver}
use Rattle.vhost_queue.proofs.packed_serving.finish.Goals as goal

pub read_event-event-requires : goal.read_event-event-requires
read_event-event-requires g c =
    c.requires.touch _ (in_driver _ c.args.queue.now.rings c.rings.result _ c.requires.mapped.1 (c.rings.ensures ∙ c.in_ok-used.ensures.rings.0) c.driver_event_place.ensures)
