-- What is claimed is noted.
use Rattle.std.proofs.Common.{refl, w32, to_z, of_z}
use Rattle.vhost_c_books.proofs.Keeping.{claimed, on-ok, still}
use Rattle.vhost_c_books.proofs.books.claims.Goals as goal

pub returns-in-Ok : goal.returns-in-Ok
returns-in-Ok c kind was = on-ok c.note.result (λ is. claimed kind c.args.books.now _ was (to_z w32 (of_z w32 c.args.fd)) (c.in-Ok.ensures was.kept) refl is refl) c.note.ensures

pub returns-in-Err : goal.returns-in-Err
returns-in-Err c kind was = still kind c.args.books.now _ was (c.in-Err.ensures was.kept) refl refl refl
