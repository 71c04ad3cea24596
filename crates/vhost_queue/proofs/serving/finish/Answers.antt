use Rattle.vhost_queue.proofs.Touching.{in_avail}
use Rattle.vhost_queue.proofs.serving.finish.Goals as goal

pub read_index-value-requires : goal.read_index-value-requires
read_index-value-requires g c =
    c.requires.touch _ (in_avail _ c.args.queue.now.rings c.add_used.new.self.rings _ c.requires.mapped.1 c.in_ok-elem.ensures.rings.0 c.notification_place.ensures.within)
