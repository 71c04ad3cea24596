-- Each session notes what it holds of what came.
use Rattle.vhost_c_channel.specs.Serving as serving
use Rattle.vhost_c_frontend.specs.Session.{is_first}
use Rattle.vhost_c_books.proofs.Whose.{got-channel, got-display, got-frontend, got-server}
use Rattle.vhost_c_books.proofs.Serving.{serving-got}
use Rattle.vhost_c_books.proofs.any_session.AnySession.receive.Goals as goal

pub returns-in-Frontend : goal.returns-in-Frontend
returns-in-Frontend c kept = got-frontend c.args.self.now c.args.fds.now (is_first c.in-Frontend.session) c.in-Frontend.session c.receive.new.self c.receive.result c.in-Frontend.is c.receive.ensures.held

pub returns-in-Channel : goal.returns-in-Channel
returns-in-Channel c kept = let r = c.receive-in-Channel in got-channel c.args.self.now c.args.fds.now c.in-Channel.session r.new.self r.result c.in-Channel.is r.ensures.held kept

pub returns-in-Server : goal.returns-in-Server
returns-in-Server c kept =
    let r = c.receive-in-Server in let s = c.in-Server.session in
    got-server c.args.self.now c.args.fds.now (serving.is_first s) s r.new.self r.result c.in-Server.is (serving-got (serving.missing_of s) c.args.bytes.now c.args.fds.now s r.new.self r.result r.ensures.received) r.ensures.held kept

pub returns-in-Display : goal.returns-in-Display
returns-in-Display c kept = let r = c.receive-in-Display in got-display c.args.self.now c.args.fds.now c.in-Display.session r.new.self r.result c.in-Display.is r.ensures.held kept
