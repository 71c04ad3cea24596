use Rattle.std.proofs.Common.{refl, inr, rules}
use Rattle.std.proofs.lemmas.List.{length-take-le}
use Rattle.vhost_connection.specs.Ahead.{way}
use Rattle.vhost_connection.specs.State.{ahead_of, state}
use Rattle.vhost_connection.proofs.Data.{data-plain, data-surplus, data-cut, data-broken}
use Rattle.vhost_connection.proofs.endpoint.Endpoint.read_data.Goals as goal

pub returns-in-Some-clause-read : goal.returns-in-Some-clause-read
unfolding ahead_of
returns-in-Some-clause-read g c = data-broken g.L.Link.event (state c.args.self.now) c.args.len _ c.in-Some.is

pub returns-in-Fault-clause-read : goal.returns-in-Fault-clause-read
unfolding ahead_of
returns-in-Fault-clause-read g c = (
  c.recv_bytes-got.ensures.got.cs,
  inr (data-cut g.L.Link.event (state c.args.self.now) _ (way c.args.self.now.source) (way c.recv_bytes-got.new.source) _ _ c.recv_bytes-got.result _ c.args.len c.in-Fault.cause c.fail.result (refl, refl) c.fail.ensures.state
      c.in_default.is c.fail.ensures.error c.recv_bytes-got.ensures.got c.in-Fault.is (length-take-le _ c.deref_mut.result.now (search rules))),
)

pub returns-then-got-clause-read : goal.returns-then-got-clause-read
unfolding ahead_of
returns-then-got-clause-read g c =
    data-surplus g.L.Link.event (state c.args.self.now) _ (way c.args.self.now.source) (way c.recv_bytes-got.new.source) _ _ c.recv_bytes-got.result c.args.len (refl, refl) refl
    c.in_default.is c.recv_bytes-got.ensures.got c.in_default-stop.not-Fault (length-take-le _ c.deref_mut.result.now (search rules)) c.if-got.true

pub returns-clause-read : goal.returns-clause-read
unfolding ahead_of
returns-clause-read g c =
    data-plain g.L.Link.event (state c.args.self.now) _ (way c.args.self.now.source) (way c.recv_bytes-got.new.source) _ _ _ c.recv_bytes-got.result c.args.len (refl, refl) refl
    c.in_default.is c.recv_bytes-got.ensures.got c.in_default-stop.not-Fault (length-take-le _ c.deref_mut.result.now (search rules)) (search rules) c.if-got.false
