use Rattle.vhost_queue.proofs.Touching.{in_same}
use Rattle.vhost_queue.proofs.packed_serving.serve_next_packed.Goals as goal

pub serve-len-requires : goal.serve-len-requires
serve-len-requires g c = rw c.deref.ensures.value (λ k d lt. c.requires.touch _ (c.in_ok-id.ensures.safe.inside k d lt))

pub finish-requires-clause-touch : goal.finish-requires-clause-touch
finish-requires-clause-touch g c = λ range lies. c.requires.touch range (in_same _ _ range c.in_ok-id.ensures.memory lies)
