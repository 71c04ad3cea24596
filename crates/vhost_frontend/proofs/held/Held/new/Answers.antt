-- A new session.
use Rattle.vhost_frontend.specs.Turn.Reached.{new}
use Rattle.vhost_frontend.proofs.held.Held.new.Goals as goal

pub invariant_of-result : goal.invariant_of-result
invariant_of-result g c = record { reached = ∣ new c.args.link c.args.max_queue_num c.args.budget c.in_ok-quiet.ensures.endpoint c.in_ok-quiet.ensures.session ∣₁ }
