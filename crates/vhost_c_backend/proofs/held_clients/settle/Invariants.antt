-- The books balance, where they did, and nothing may be claimed but of a call.
use Rattle.std.proofs.Common.{◌≡◌, false, [], length}
use Rattle.vhost_c_common.specs.Held.{claimable, let_go}
use Rattle.vhost_c_backend.specs.HeldClients.{IsBalanced}
use Rattle.vhost_c_backend.specs.Served.{has_call}
use Rattle.vhost_c_backend.proofs.held_clients.settle.Given as goal

abbrev pub invariant-loop-refusal : goal.invariant-loop-refusal
invariant-loop-refusal l = record {
  balanced : IsBalanced l.fn.books → IsBalanced l.books;
  own : has_call l.books.served ≡ false → claimable l.books.served.held ≡ [];
}

abbrev pub decreases-loop-refusal : goal.decreases-loop-refusal
decreases-loop-refusal l = length (let_go l.books.served.held)
