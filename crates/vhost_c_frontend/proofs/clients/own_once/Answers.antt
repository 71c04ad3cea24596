-- It is owned once.
use Rattle.vhost_c_frontend.proofs.Owning.{once, refused-wants}
use Rattle.vhost_c_frontend.proofs.clients.own_once.Goals as goal

pub returns-in-Ok : goal.returns-in-Ok
returns-in-Ok c queues profile cells is = once queues profile cells c.args.session.now is c.talks_law.ensures.talks c.ask.new.self c.take.new.self c.take.result c.in-Ok.ensures.0 c.take.ensures.taken

pub returns-in-Err : goal.returns-in-Err
returns-in-Err c queues profile cells is = refused-wants queues profile cells c.args.session.now is c.ask.new.self c.in-Err.refusal c.in-Err.ensures.0.0
