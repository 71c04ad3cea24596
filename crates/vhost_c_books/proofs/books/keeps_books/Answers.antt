use Rattle.vhost_c_books.proofs.books.keeps_books.Goals as goal

pub acts-preserved : goal.acts-preserved
acts-preserved c = record { balanced = λ kind was. c.in-Ok.ensures kind (c.acts.invariant.balanced kind was) }
