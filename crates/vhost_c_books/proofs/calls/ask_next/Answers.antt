-- Once it is asked, nobody will claim what came with the answer before.
use Rattle.std.specs.Prelude.{is_some}
use Rattle.vhost_c_books.proofs.Calling.{dropped}
use Rattle.vhost_c_books.proofs.calls.ask_next.Goals as goal

pub returns-in-Some : goal.returns-in-Some
returns-in-Some c = dropped (is_some c.args.session.now.asked) (is_some c.ask.new.self.asked) c.args.session.now.held c.ask.new.self.held c.ask.ensures.2
