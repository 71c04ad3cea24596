use Rattle.std.proofs.Common.{w32, to_z, of_z}
use Rattle.vhost_c_backend.proofs.Keeping.{on-ok, granted, denied}
use Rattle.vhost_c_backend.proofs.held_clients.claims.Goals as goal

pub returns-in-Ok : goal.returns-in-Ok
returns-in-Ok c was = on-ok c.note.result (λ is. granted c.args.books.now.came.items c.args.books.now.claimed.items c.args.books.now.handed.items c.note.new.list.items (to_z w32 (of_z w32 c.args.fd)) c.args.books.now.served c.claim.new.self c.in-Ok.ensures is was) c.note.ensures

pub returns-in-Err : goal.returns-in-Err
returns-in-Err c was = denied c.args.books.now.came.items c.args.books.now.claimed.items c.args.books.now.handed.items (to_z w32 (of_z w32 c.args.fd)) c.args.books.now.served c.claim.new.self c.in-Err.field-0 c.in-Err.ensures was
