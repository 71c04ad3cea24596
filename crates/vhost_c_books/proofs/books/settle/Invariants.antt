-- The books balance, where they did, and nothing may be claimed any more.
use Rattle.std.proofs.Common.{◌≡◌, [], length}
use Rattle.vhost_c_common.specs.Held.{claimable, let_go}
use Rattle.vhost_c_books.specs.Books.{IsBalanced, IsKept, held_by}
use Rattle.vhost_c_books.specs.declared.any_session.Kind.{Kind}
use Rattle.vhost_c_books.proofs.books.settle.Given as goal

abbrev pub invariant-loop-refusal : goal.invariant-loop-refusal
invariant-loop-refusal l = record {
  balanced : (kind : Kind) → IsBalanced kind l.fn.books → IsBalanced kind l.books;
  own : IsKept l.fn.books.session → claimable (held_by l.books.session) ≡ [];
}

abbrev pub decreases-loop-refusal : goal.decreases-loop-refusal
decreases-loop-refusal l = length (let_go (held_by l.books.session))
