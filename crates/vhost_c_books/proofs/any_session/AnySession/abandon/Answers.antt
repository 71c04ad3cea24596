-- What a frontend's sessions give up they hold still.
use Rattle.std.proofs.Common.{[]}
use Rattle.vhost_c_common.proofs.Balancing.{released-times}
use Rattle.vhost_c_books.proofs.Calling.{stays}
use Rattle.vhost_c_books.proofs.Whose.{gives-up-server, of-frontend}
use Rattle.vhost_c_books.proofs.any_session.AnySession.abandon.Goals as goal

pub returns-in-Frontend : goal.returns-in-Frontend
returns-in-Frontend c kept =
    let s = c.in-Frontend.session in let t = c.abandon.new.self in
    of-frontend c.args.self.now [] [] s t c.in-Frontend.is (stays s.held t.held (λ n. released-times n s.held t.held c.abandon.ensures.released))

pub returns-in-Server : goal.returns-in-Server
returns-in-Server c kept = let r = c.abandon-in-Server in gives-up-server c.args.self.now c.in-Server.session r.new.self c.in-Server.is r.ensures.abandoned r.ensures.rest kept
