use Rattle.std.proofs.Common.{◌∙◌, sym, subst}
use Rattle.std.specs.Prelude.{Ok}
use Rattle.vhost_backend_req.specs.Halves.{input_of}
use Rattle.vhost_joined.proofs.Running.{not-stopped, held}
use Rattle.vhost_joined_reverse.specs.Joined.{Steps}
use Rattle.vhost_joined_reverse.specs.Sides.{parts_of, as_view}
use Rattle.vhost_joined_reverse.proofs.Stepping.{steps-so, sound-so}
use Rattle.vhost_joined_reverse.proofs.joined.JoinedReverse.step.Goals as goal

pub returns : goal.returns
returns g c =
    let none = not-stopped (c.self.inside.stopped) (sym c.is_some.ensures ∙ c.if-is_some.false) in
    let gives = g.D.VhostUserFrontendReqHandlerMut.gives in
    let lists = held c.prepare.result _ (sym c.is_err.ensures.value ∙ c.if-is_err.false) c.prepare.ensures.lists in
    subst (λ v. Steps gives v (input_of c.args.call.now) (Ok c.exchange-done.result.answer) (as_view (parts_of c.exchange-done.new.self) c.exchange-done.result.stop)) c.self.view_is
    (steps-so gives (input_of c.args.call.now) (parts_of c.self.inside.sides) (parts_of c.prepare.new.self) c.prepare.ensures.asking c.prepare.ensures.channel c.prepare.ensures.serving c.prepare.ensures.rest
    c.exchange-done.result (parts_of c.exchange-done.new.self) c.self.inside.stopped none (c.self.invariant none) lists c.exchange-done.ensures)

pub invariant_of-self-2 : goal.invariant_of-self-2
invariant_of-self-2 g c on =
    let none = not-stopped (c.self.inside.stopped) (sym c.is_some.ensures ∙ c.if-is_some.false) in
    let lists = held c.prepare.result _ (sym c.is_err.ensures.value ∙ c.if-is_err.false) c.prepare.ensures.lists in
    sound-so g.D.VhostUserFrontendReqHandlerMut.gives (input_of c.args.call.now) (parts_of c.self.inside.sides) (parts_of c.prepare.new.self) c.prepare.ensures.asking c.prepare.ensures.channel c.prepare.ensures.serving c.prepare.ensures.rest
    c.exchange-done.result (parts_of c.exchange-done.new.self) (c.self.invariant none) lists c.exchange-done.ensures on
