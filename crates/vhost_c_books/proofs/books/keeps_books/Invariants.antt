-- The books balance, where they did.
use Rattle.vhost_c_books.specs.Books.{IsBalanced}
use Rattle.vhost_c_books.specs.declared.any_session.Kind.{Kind}
use Rattle.vhost_c_books.proofs.books.keeps_books.Given as goal

abbrev pub invariant-acts : goal.invariant-acts
invariant-acts l = record { balanced : (kind : Kind) → IsBalanced kind l.fn.books → IsBalanced kind l.books }
