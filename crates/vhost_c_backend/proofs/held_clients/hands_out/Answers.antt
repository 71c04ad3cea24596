use Rattle.vhost_c_backend.proofs.Keeping.{handed-out}
use Rattle.vhost_c_backend.proofs.held_clients.hands_out.Goals as goal

pub returns-in-Ok-clause-balanced : goal.returns-in-Ok-clause-balanced
returns-in-Ok-clause-balanced c was = handed-out c.args.books.now.came.items c.args.books.now.claimed.items c.args.books.now.handed.items c.args.books.now.served.held c.unclaimed-count.new.self.held was c.args.place.now c.unclaimed-count.result c.unclaimed-count.new.place c.note.new.list.items c.unclaimed-count.ensures.out c.in-Ok.ensures
