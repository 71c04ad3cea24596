-- Each session holds what it held.
use Rattle.std.proofs.Common.{[]}
use Rattle.vhost_c_books.proofs.Calling.{stays}
use Rattle.vhost_c_books.proofs.Whose.{calls-channel, calls-display, calls-server, of-frontend}
use Rattle.vhost_c_books.proofs.any_session.AnySession.call.Goals as goal

pub returns-in-Frontend : goal.returns-in-Frontend
returns-in-Frontend c kept =
    let s = c.in-Frontend.session in let t = c.call_frontend.new.session in of-frontend c.args.self.now [] [] s t c.in-Frontend.is (stays s.held t.held c.call_frontend.ensures)

pub returns-in-Channel : goal.returns-in-Channel
returns-in-Channel c kept = calls-channel c.args.self.now c.in-Channel.session c.call_channel.new.session c.in-Channel.is c.call_channel.ensures kept

pub returns-in-Server : goal.returns-in-Server
returns-in-Server c kept = calls-server c.args.self.now c.in-Server.session c.call_server.new.session c.in-Server.is c.call_server.ensures kept

pub returns-in-Display : goal.returns-in-Display
returns-in-Display c kept = calls-display c.args.self.now c.in-Display.session c.call_display.new.session c.in-Display.is c.call_display.ensures kept
