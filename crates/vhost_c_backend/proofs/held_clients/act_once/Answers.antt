use Rattle.vhost_c_backend.specs.Served.{has_call}
use Rattle.vhost_c_backend.proofs.Keeping.{gone-on, ended, abandoned}
use Rattle.vhost_c_backend.proofs.held_clients.act_once.Goals as goal

pub returns-in-Next : goal.returns-in-Next
returns-in-Next c was = gone-on c.args.books.now.came.items c.args.books.now.claimed.items c.args.books.now.handed.items c.args.books.now.served c.next.new.self c.next.result c.next.ensures was

pub returns-in-Reply : goal.returns-in-Reply
returns-in-Reply c was = ended c.args.books.now.came.items c.args.books.now.claimed.items c.args.books.now.handed.items c.args.books.now.served.held c.reply.new.self.held was (has_call c.args.books.now.served) (has_call c.reply.new.self) c.reply.ensures.held

pub returns-in-Abandon : goal.returns-in-Abandon
returns-in-Abandon c was = abandoned c.args.books.now.came.items c.args.books.now.claimed.items c.args.books.now.handed.items c.args.books.now.served.held c.abandon.new.self.held was (has_call c.args.books.now.served) c.abandon.ensures.abandoned
