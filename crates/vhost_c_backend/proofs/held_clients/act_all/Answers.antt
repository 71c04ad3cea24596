use Rattle.vhost_c_backend.proofs.held_clients.act_all.Goals as goal

pub acts-preserved : goal.acts-preserved
acts-preserved c = record { balanced = λ was. c.in-Ok.ensures (c.acts.invariant.balanced was) }
