use Rattle.std.proofs.Common.{◌∙◌, sym, subst}
use Rattle.std.specs.Prelude.{Ok, Err}
use Rattle.vhost_frontend_core.specs.Values.{call_of}
use Rattle.vhost_joined.specs.Joined.{Steps}
use Rattle.vhost_joined.specs.Sides.{parts_of, as_view}
use Rattle.vhost_joined.proofs.Ending.{stepped-to-end}
use Rattle.vhost_joined.proofs.Running.{not-stopped, held}
use Rattle.vhost_joined.proofs.Stepping.{still-sound, steps-so, sound-so, halts-so, sound-halted}
use Rattle.vhost_joined.proofs.joined.Joined.step.Goals as goal
use Rattle.vhost_device.specs.Reached.{by_trait}

pub exchange-requires-clause-quiet : goal.exchange-requires-clause-quiet
exchange-requires-clause-quiet g c =
    let none = not-stopped (c.self.inside.stopped) (sym c.is_some.ensures ∙ c.if-is_some.false) in
    (still-sound (by_trait g.D.VhostUserBackendReqHandlerMut.gives) (call_of c.args.call.now) (parts_of c.self.inside.sides) (parts_of c.prepare.new.self) c.prepare.ensures.asking c.prepare.ensures.serving c.prepare.ensures.rest (c.self.invariant none)).nobody

pub returns-in-Ok : goal.returns-in-Ok
returns-in-Ok g c =
    let none = not-stopped (c.self.inside.stopped) (sym c.is_some.ensures ∙ c.if-is_some.false) in
    let gives = by_trait g.D.VhostUserBackendReqHandlerMut.gives in
    let lists = held c.prepare.result _ (sym c.is_err.ensures.value ∙ c.if-is_err.false) c.prepare.ensures.lists in
    let stepped : Steps gives c.args.self.now (call_of c.args.call.now) (Ok c.in-Ok.done.answer) (as_view (parts_of c.exchange.new.self) c.in-Ok.done.stop) =
    subst (λ v. Steps gives v (call_of c.args.call.now) (Ok c.in-Ok.done.answer) (as_view (parts_of c.exchange.new.self) c.in-Ok.done.stop)) c.self.view_is
    (steps-so gives (call_of c.args.call.now) (parts_of c.self.inside.sides) (parts_of c.prepare.new.self) c.prepare.ensures.asking c.prepare.ensures.serving c.prepare.ensures.rest
    c.in-Ok.done (parts_of c.exchange.new.self) c.self.inside.stopped none (c.self.invariant none) lists c.in-Ok.ensures.done)
    in
    record {
      step = stepped;
      listed = c.in-Ok.ensures.listed;
      ends = stepped-to-end gives c.args.self.now (as_view (parts_of c.exchange.new.self) c.in-Ok.done.stop) (call_of c.args.call.now) (Ok c.in-Ok.done.answer) stepped;
    }

pub returns-in-Err : goal.returns-in-Err
returns-in-Err g c =
    let none = not-stopped (c.self.inside.stopped) (sym c.is_some.ensures ∙ c.if-is_some.false) in
    let gives = by_trait g.D.VhostUserBackendReqHandlerMut.gives in
    let stepped : Steps gives c.args.self.now (call_of c.args.call.now) (Err c.in-Err.halt) (as_view (parts_of c.exchange.new.self) c.self.inside.stopped) =
    subst (λ v. Steps gives v (call_of c.args.call.now) (Err c.in-Err.halt) (as_view (parts_of c.exchange.new.self) c.self.inside.stopped)) c.self.view_is
    (halts-so gives (call_of c.args.call.now) (parts_of c.self.inside.sides) (parts_of c.prepare.new.self) c.prepare.ensures.asking c.prepare.ensures.serving c.prepare.ensures.rest
    c.in-Err.halt (parts_of c.exchange.new.self) c.self.inside.stopped none c.in-Err.ensures.done)
    in
    record {
      step = stepped;
      listed = tt;
      ends = stepped-to-end gives c.args.self.now (as_view (parts_of c.exchange.new.self) c.self.inside.stopped) (call_of c.args.call.now) (Err c.in-Err.halt) stepped;
    }

pub invariant_of-self-in-Ok : goal.invariant_of-self-in-Ok
invariant_of-self-in-Ok g c on =
    let none = not-stopped (c.self.inside.stopped) (sym c.is_some.ensures ∙ c.if-is_some.false) in
    let lists = held c.prepare.result _ (sym c.is_err.ensures.value ∙ c.if-is_err.false) c.prepare.ensures.lists in
    sound-so (by_trait g.D.VhostUserBackendReqHandlerMut.gives) (call_of c.args.call.now) (parts_of c.self.inside.sides) (parts_of c.prepare.new.self) c.prepare.ensures.asking c.prepare.ensures.serving c.prepare.ensures.rest
    c.in-Ok.done (parts_of c.exchange.new.self) (c.self.invariant none) lists c.in-Ok.ensures.done on

pub invariant_of-self-in-Err : goal.invariant_of-self-in-Err
invariant_of-self-in-Err g c on =
    sound-halted (by_trait g.D.VhostUserBackendReqHandlerMut.gives) (call_of c.args.call.now) (parts_of c.self.inside.sides) (parts_of c.prepare.new.self) c.prepare.ensures.asking c.prepare.ensures.serving c.prepare.ensures.rest
    c.in-Err.halt (parts_of c.exchange.new.self) (c.self.invariant on) c.in-Err.ensures.done
