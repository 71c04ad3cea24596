use Rattle.std.proofs.Common.{refl, map, sym, ◌∙◌}
use Rattle.vhost_protocol.specs.Stream.{carrying}
use Rattle.vhost_link.proofs.Cells.{length-carrying}
use Rattle.vhost_connection.specs.Pass.{joined}
use Rattle.vhost_connection.specs.State.{ahead_of, state}
use Rattle.vhost_connection.proofs.Talking.{sent-all, sent-some, sends-broken}
use Rattle.vhost_connection.proofs.Errors.{passed-on}
use Rattle.vhost_connection.proofs.endpoint.Endpoint.send_iovec_all.Goals as goal

pub returns-in_err-expect_sound-clause-sent : goal.returns-in_err-expect_sound-clause-sent
unfolding ahead_of
returns-in_err-expect_sound-clause-sent g c =
    λ small few some. rw (passed-on c.from_residual.result c.from_residual.ensures.1) (sends-broken g.L.Link.event (state c.args.self.now) (carrying (map (λ h. h.now) c.args.handles.now) (joined c.args.iovs.now)) _ c.in_err-expect_sound.ensures.broken)

pub returns-in-None-clause-sent : goal.returns-in-None-clause-sent
unfolding ahead_of
returns-in-None-clause-sent g c =
    λ small few some. (
      c.in-Some.ensures.1 ∙ sym (length-carrying (map (λ h. h.now) c.args.handles.now) (joined c.args.iovs.now)),
      sent-all g.L.Link.event (state c.args.self.now) _ c.send_pieces-sent.new.link (carrying (map (λ h. h.now) c.args.handles.now) (joined c.args.iovs.now)) c.send_pieces-sent.result refl c.in_ok-expect_sound.ensures.sound c.in-None.is c.send_pieces-sent.ensures,
    )

pub returns-in-Some-fault-clause-sent : goal.returns-in-Some-fault-clause-sent
unfolding ahead_of
returns-in-Some-fault-clause-sent g c =
    λ small few some. sent-some g.L.Link.event (state c.args.self.now) (state c.fail.new.self) c.send_pieces-sent.new.link (carrying (map (λ h. h.now) c.args.handles.now) (joined c.args.iovs.now)) c.send_pieces-sent.result c.in-Some-fault.cause c.fail.result
    c.fail.ensures.state c.in_ok-expect_sound.ensures.sound c.fail.ensures.error c.in-Some-fault.is c.send_pieces-sent.ensures
