-- The books balance, where they did.
use Rattle.vhost_c_backend.specs.HeldClients.{IsBalanced}
use Rattle.vhost_c_backend.proofs.held_clients.act_all.Given as goal

abbrev pub invariant-acts : goal.invariant-acts
invariant-acts l = record { balanced : IsBalanced l.fn.books → IsBalanced l.books }
