-- Each session hands out as many as there are, or as there is room for.
use Rattle.std.proofs.Common.{[], take, ◌∙◌}
use Rattle.vhost_c_books.proofs.Calling.{handed}
use Rattle.vhost_c_books.proofs.Whose.{hands-channel, hands-display, hands-frontend, hands-server, of-channel, of-display, of-frontend, of-server}
use Rattle.vhost_c_books.proofs.Serving.{serving-with}
use Rattle.vhost_c_books.proofs.any_session.AnySession.unclaimed.Goals as goal

pub returns-in-Frontend-clause-moves : goal.returns-in-Frontend-clause-moves
returns-in-Frontend-clause-moves c kept =
    let r = c.unclaimed in let s = c.in-Frontend.session in
    of-frontend c.args.self.now [] (take r.result r.new.place) s r.new.self c.in-Frontend.is (handed c.args.place.now r.result r.new.place s.held r.new.self.held r.ensures.out)

pub returns-in-Frontend-clause-handed : goal.returns-in-Frontend-clause-handed
returns-in-Frontend-clause-handed c = let r = c.unclaimed in hands-frontend c.args.self.now c.args.place.now r.result r.new.place r.auto.place c.in-Frontend.session r.new.self c.in-Frontend.is r.ensures.out

pub returns-in-Channel-clause-moves : goal.returns-in-Channel-clause-moves
returns-in-Channel-clause-moves c kept =
    let r = c.unclaimed-in-Channel in let s = c.in-Channel.session in
    of-channel c.args.self.now [] (take r.result r.new.place) s r.new.self c.in-Channel.is (λ none. r.ensures.out.own ∙ none) (handed c.args.place.now r.result r.new.place s.held r.new.self.held r.ensures.out) kept

pub returns-in-Channel-clause-handed : goal.returns-in-Channel-clause-handed
returns-in-Channel-clause-handed c = let r = c.unclaimed-in-Channel in hands-channel c.args.self.now c.args.place.now r.result r.new.place r.auto.place c.in-Channel.session r.new.self c.in-Channel.is r.ensures.out

pub returns-in-Server-clause-moves : goal.returns-in-Server-clause-moves
returns-in-Server-clause-moves c kept =
    let r = c.unclaimed-in-Server in let s = c.in-Server.session in
    of-server c.args.self.now [] (take r.result r.new.place) s r.new.self c.in-Server.is (serving-with s r.new.self r.ensures.rest) (λ was. handed c.args.place.now r.result r.new.place s.held r.new.self.held r.ensures.out) kept

pub returns-in-Server-clause-handed : goal.returns-in-Server-clause-handed
returns-in-Server-clause-handed c = let r = c.unclaimed-in-Server in hands-server c.args.self.now c.args.place.now r.result r.new.place r.auto.place c.in-Server.session r.new.self c.in-Server.is r.ensures.out

pub returns-in-Display-clause-moves : goal.returns-in-Display-clause-moves
returns-in-Display-clause-moves c kept =
    let r = c.unclaimed-in-Display in let s = c.in-Display.session in
    of-display c.args.self.now [] (take r.result r.new.place) s r.new.self c.in-Display.is (λ none. r.ensures.out.own ∙ none) (handed c.args.place.now r.result r.new.place s.held r.new.self.held r.ensures.out) kept

pub returns-in-Display-clause-handed : goal.returns-in-Display-clause-handed
returns-in-Display-clause-handed c = let r = c.unclaimed-in-Display in hands-display c.args.self.now c.args.place.now r.result r.new.place r.auto.place c.in-Display.session r.new.self c.in-Display.is r.ensures.out
