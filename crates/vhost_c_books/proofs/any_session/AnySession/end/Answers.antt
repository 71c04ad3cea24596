-- What is given up may not be claimed, once no call is open.
use Rattle.std.proofs.Common.{[]}
use Rattle.vhost_c_common.proofs.Balancing.{released-times}
use Rattle.vhost_c_channel.specs.Serving.{has_call}
use Rattle.vhost_c_books.proofs.Calling.{given-up, stays}
use Rattle.vhost_c_books.proofs.Whose.{ends-server, kept-of, of-frontend}
use Rattle.vhost_c_books.proofs.Serving.{answered-all, answers}
use Rattle.vhost_c_books.proofs.any_session.AnySession.end.Goals as goal

pub returns-in-Frontend-clause-moves : goal.returns-in-Frontend-clause-moves
returns-in-Frontend-clause-moves c kept =
    let s = c.in-Frontend.session in let t = c.abandon.new.self in
    of-frontend c.args.self.now [] [] s t c.in-Frontend.is (stays s.held t.held (λ n. released-times n s.held t.held c.abandon.ensures.released))

pub returns-in-Server-clause-moves : goal.returns-in-Server-clause-moves
returns-in-Server-clause-moves c kept =
    let r = c.reply in let a = c.abandon-in-Server in
    ends-server c.args.self.now c.in-Server.session r.new.self a.new.self c.in-Server.is (answers _ c.in-Server.session r.new.self r.result r.ensures) a.ensures.abandoned a.ensures.rest kept

pub returns-in-Server-clause-own : goal.returns-in-Server-clause-own
returns-in-Server-clause-own c kept =
    let r = c.reply in let a = c.abandon-in-Server in
    given-up (has_call r.new.self) r.new.self.held a.new.self.held a.ensures.abandoned (answered-all _ c.in-Server.session r.new.self r.result r.ensures (kept-of _ _ c.in-Server.is kept))
