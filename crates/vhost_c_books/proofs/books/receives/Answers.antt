-- What came is noted.
use Rattle.std.proofs.Common.{refl}
use Rattle.vhost_c_books.proofs.Keeping.{came, on-ok, still}
use Rattle.vhost_c_books.proofs.books.receives.Goals as goal

pub returns-in-Ok : goal.returns-in-Ok
returns-in-Ok c kind was = on-ok c.note.result (λ is. came kind c.args.books.now _ was c.args.fds.now (c.in-Ok.ensures was.kept) is refl refl) c.note.ensures

pub returns-in-Err : goal.returns-in-Err
returns-in-Err c kind was = still kind c.args.books.now _ was (c.in-Err.ensures was.kept) refl refl refl
