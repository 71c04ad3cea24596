use Rattle.std.proofs.Common.{refl}
use Rattle.vhost_connection.specs.Ahead.{way}
use Rattle.vhost_connection.specs.State.{ahead_of, state}
use Rattle.vhost_connection.proofs.More.{more-came, more-fault}
use Rattle.vhost_connection.proofs.endpoint.Endpoint.recv_more.Goals as goal

pub returns-in-Fault : goal.returns-in-Fault
unfolding ahead_of
returns-in-Fault g c =
    more-fault g.L.Link.event (state c.args.self.now) (state c.fail.new.self) c.args.left (way c.args.self.now.source) (way c.recv_rest-got.new.source) _ _ c.recv_rest-got.result c.in-Fault.cause c.fail.result (refl, refl) c.fail.ensures.state
    c.requires c.fail.ensures.error c.recv_rest-got.ensures.got c.in-Fault.is

pub returns : goal.returns
unfolding ahead_of
returns g c = more-came g.L.Link.event (state c.args.self.now) _ c.args.left (way c.args.self.now.source) (way c.recv_rest-got.new.source) _ _ c.recv_rest-got.result (refl, refl) refl c.requires c.recv_rest-got.ensures.got c.in_default.not-Fault
