use Rattle.vhost_c_books.proofs.books.settles_books.Goals as goal

pub returns-in-Ok : goal.returns-in-Ok
returns-in-Ok c kind was = c.settle.ensures kind (c.in-Ok.ensures kind was)
