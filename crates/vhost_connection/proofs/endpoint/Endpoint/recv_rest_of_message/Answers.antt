use Rattle.std.proofs.Common.{refl, inr, arith}
use Rattle.std.proofs.lemmas.List.{take_all}
use Rattle.vhost_connection.specs.Ahead.{way}
use Rattle.vhost_connection.specs.State.{ahead_of, state}
use Rattle.vhost_connection.proofs.Data.{data-plain, data-surplus, data-cut, data-broken}
use Rattle.vhost_connection.proofs.endpoint.Endpoint.recv_rest_of_message.Goals as goal

pub returns-in-Some : goal.returns-in-Some
unfolding ahead_of
returns-in-Some g c = data-broken g.L.Link.event (state c.args.self.now) _ _ c.in-Some.is

pub returns-in-Fault : goal.returns-in-Fault
unfolding ahead_of
returns-in-Fault g c = (
  c.recv_rest-got.ensures.got.cs,
  inr (data-cut g.L.Link.event (state c.args.self.now) _ (way c.args.self.now.source) (way c.recv_rest-got.new.source) _ _ c.recv_rest-got.result _ _ c.in-Fault.cause c.fail.result (refl, refl) c.fail.ensures.state
      c.in_default.is c.fail.ensures.error c.recv_rest-got.ensures.got c.in-Fault.is refl),
)

pub returns-then-got : goal.returns-then-got
unfolding ahead_of
returns-then-got g c =
    data-surplus g.L.Link.event (state c.args.self.now) _ (way c.args.self.now.source) (way c.recv_rest-got.new.source) _ _ c.recv_rest-got.result _ (refl, refl) refl
    c.in_default.is c.recv_rest-got.ensures.got c.in_default-stop.not-Fault refl c.if-got.true

pub returns : goal.returns
unfolding ahead_of
returns g c =
    data-plain g.L.Link.event (state c.args.self.now) _ (way c.args.self.now.source) (way c.recv_rest-got.new.source) _ _ _ c.recv_rest-got.result _ (refl, refl) refl
    c.in_default.is c.recv_rest-got.ensures.got c.in_default-stop.not-Fault refl (take_all _ c.recv_rest-got.new.room (omega (arith, c.recv_rest-got.auto.room))) c.if-got.false
