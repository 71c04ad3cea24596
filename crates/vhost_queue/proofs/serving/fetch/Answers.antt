use Rattle.vhost_queue.proofs.Touching.{in_avail}
use Rattle.vhost_queue.proofs.serving.fetch.Goals as goal

pub read_index-head-requires : goal.read_index-head-requires
read_index-head-requires g c =
    c.requires.touch _ (in_avail _ c.args.queue.now.rings c.set_avail_idx.new.self.rings _ c.requires.mapped.1 c.in_ok-set_avail_idx.ensures.rings.0 c.in-Some.ensures.within)
