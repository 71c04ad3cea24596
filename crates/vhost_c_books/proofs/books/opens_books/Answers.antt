use Rattle.vhost_c_books.proofs.Keeping.{first}
use Rattle.vhost_c_books.proofs.books.opens_books.Goals as goal

pub returns-in-Ok : goal.returns-in-Ok
returns-in-Ok c = first c.args.kind _ c.in-Ok.ensures c.new-in-Ok.ensures.items c.new-in-Ok-2.ensures.items c.new-in-Ok-3.ensures.items
