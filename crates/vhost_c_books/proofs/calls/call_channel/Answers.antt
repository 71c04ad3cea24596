-- What is taken leaves what is held.
use Rattle.vhost_c_books.proofs.Calling.{reply-taken}
use Rattle.vhost_c_books.proofs.calls.call_channel.Goals as goal

pub returns-in-Take : goal.returns-in-Take
returns-in-Take c = reply-taken c.args.session.now c.take.new.self c.take.ensures
