use Rattle.std.proofs.Common.{[], refl, rules}
use Rattle.std.proofs.lemmas.List.{length-take-le}
use Rattle.vhost_connection.specs.Ahead.{way}
use Rattle.vhost_connection.specs.State.{ahead_of, state}
use Rattle.vhost_connection.proofs.Whole.{behind-came, behind-fault}
use Rattle.vhost_connection.proofs.endpoint.whole.Endpoint+VhostUserMsgHeader+R+L.recv_behind.Goals as goal

pub returns-in-Fault : goal.returns-in-Fault
unfolding ahead_of
returns-in-Fault g c =
    behind-fault g.L.Link.event (state c.args.self.now) (state c.fail.new.self) c.args.left c.args.len (way c.args.self.now.source) (way c.recv_bytes-got.new.source) _ _ [] c.recv_bytes-got.result c.in-Fault.cause c.fail.result (refl, refl) c.fail.ensures.state
    c.requires.sound c.fail.ensures.error c.recv_bytes-got.ensures.got c.in-Fault.is (length-take-le _ c.deref_mut.result.now (search rules))

pub returns : goal.returns
unfolding ahead_of
returns g c =
    behind-came g.L.Link.event (state c.args.self.now) _ c.args.left c.args.len (way c.args.self.now.source) (way c.recv_bytes-got.new.source) _ _ _ c.recv_bytes-got.result (refl, refl) refl
    c.requires.sound c.recv_bytes-got.ensures.got c.in_default.not-Fault (length-take-le _ c.deref_mut.result.now (search rules)) (search rules)
