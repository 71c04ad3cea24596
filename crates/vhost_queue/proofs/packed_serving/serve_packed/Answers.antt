use Rattle.vhost_queue.proofs.Touching.{in_same}
use Rattle.vhost_queue.proofs.packed_serving.serve_packed.Goals as goal

pub serve_next_packed-requires-clause-touch : goal.serve_next_packed-requires-clause-touch
serve_next_packed-requires-clause-touch g c = λ range lies. c.requires.touch range (in_same _ _ range c.loop-step.invariant.0 lies)
