use Rattle.vhost_c_backend.specs.Served.{is_first}
use Rattle.vhost_c_backend.proofs.Keeping.{on-ok, received, not-received}
use Rattle.vhost_c_backend.proofs.held_clients.receives.Goals as goal

pub returns-in-Ok : goal.returns-in-Ok
returns-in-Ok c was = on-ok c.note.result (received c.args.books.now.came.items c.args.books.now.claimed.items c.args.books.now.handed.items c.args.books.now.served.held c.receive.new.self.held was c.args.fds.now c.note.new.list.items _ c.in-Ok.ensures.held) c.note.ensures

pub returns-in-Err : goal.returns-in-Err
returns-in-Err c was = not-received c.args.books.now.came.items c.args.books.now.claimed.items c.args.books.now.handed.items c.args.books.now.served.held c.receive.new.self.held was c.args.fds.now (is_first c.args.books.now.served) c.in-Err.field-0 c.in-Err.ensures.held
