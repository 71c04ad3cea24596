-- A call that is no flag is asked.
use Rattle.vhost_c_books.proofs.Calling.{asked}
use Rattle.vhost_c_books.proofs.calls.ask_frontend.Goals as goal

pub returns-in_default : goal.returns-in_default
returns-in_default c =
    asked c.args.session.now c.ask.new.self c.ask.result c.args.call.now c.ask.ensures c.in_default.not-SetReplyAck c.in_default.not-SetConfigChange c.in_default.not-SetSharedObject c.in_default.not-SetShmem
