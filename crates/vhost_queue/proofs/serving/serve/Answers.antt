use Rattle.vhost_queue.proofs.Touching.{in_same}
use Rattle.vhost_queue.proofs.serving.serve.Goals as goal

pub serve_next-requires-clause-touch : goal.serve_next-requires-clause-touch
serve_next-requires-clause-touch g c = λ range lies. c.requires.touch range (in_same _ _ range c.loop-step.invariant.0 lies)
