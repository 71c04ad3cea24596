-- A frontend's sessions grant a claim or don't; a device's never do.
use Rattle.std.proofs.Common.{refl, subst, w32, to_z, of_z}
use Rattle.std.proofs.lemmas.Int.{to_z-of_z}
use Rattle.vhost_c_books.proofs.Whose.{as-before, claimed-frontend, claimed-server}
use Rattle.vhost_c_books.specs.Books.{Claims}
use Rattle.vhost_c_books.specs.declared.any_session.AnySession.TheVariants.{Frontend, Server}
use Rattle.vhost_c_books.proofs.any_session.AnySession.claim.Goals as goal

pub returns-in-Frontend : goal.returns-in-Frontend
returns-in-Frontend c kept =
    let r = c.claim in let old = c.args.self.now in
    subst (λ fd. Claims fd old r.result (Frontend r.new.self)) (to_z-of_z w32 c.args.fd c.ranges.fd) (claimed-frontend old (to_z w32 (of_z w32 c.args.fd)) c.in-Frontend.session r.new.self r.result c.in-Frontend.is r.ensures)

pub returns-in-Server : goal.returns-in-Server
returns-in-Server c kept =
    let r = c.claim-in-Server in let old = c.args.self.now in
    subst (λ fd. Claims fd old r.result (Server r.new.self)) (to_z-of_z w32 c.args.fd c.ranges.fd) (claimed-server old (to_z w32 (of_z w32 c.args.fd)) c.in-Server.session r.new.self r.result c.in-Server.is r.ensures kept)

pub returns-in-Channel : goal.returns-in-Channel
returns-in-Channel c kept = as-before c.args.self.now c.args.self.now refl kept

pub returns-in-Display : goal.returns-in-Display
returns-in-Display c kept = as-before c.args.self.now c.args.self.now refl kept
