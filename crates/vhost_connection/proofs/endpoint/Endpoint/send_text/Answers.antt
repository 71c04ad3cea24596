use Rattle.std.proofs.Common.{refl, take, map}
use Rattle.vhost_protocol.specs.Stream.{carrying}
use Rattle.vhost_connection.specs.State.{ahead_of, state}
use Rattle.vhost_connection.proofs.AtOnce.{unasked}
use Rattle.vhost_connection.proofs.Talking.{sent-all, sent-some, sends-broken}
use Rattle.vhost_connection.proofs.Errors.{passed-on}
use Rattle.vhost_connection.proofs.endpoint.Endpoint.send_text.Goals as goal

pub returns-in_err-expect_sound-clause-sent : goal.returns-in_err-expect_sound-clause-sent
unfolding ahead_of
returns-in_err-expect_sound-clause-sent g c =
    rw (passed-on c.from_residual.result c.from_residual.ensures.1) (sends-broken g.L.Link.event (state c.args.self.now) (carrying (map (λ h. h.now) c.args.handles.now) (take c.args.len c.args.self.now.text.value)) _ c.in_err-expect_sound.ensures.broken)

pub returns-in_err-expect_sound-clause-once : goal.returns-in_err-expect_sound-clause-once
returns-in_err-expect_sound-clause-once g c some whole = rw (passed-on c.from_residual.result c.from_residual.ensures.1) unasked

pub returns-in-None-clause-sent : goal.returns-in-None-clause-sent
unfolding ahead_of
returns-in-None-clause-sent g c =
    sent-all g.L.Link.event (state c.args.self.now) _ c.send_whole-sent.new.link _ c.send_whole-sent.result refl c.in_ok-expect_sound.ensures.sound c.in-None.is (rw c.deref.ensures at c.send_whole-sent.ensures.sent)

pub returns-in-Some-clause-sent : goal.returns-in-Some-clause-sent
unfolding ahead_of
returns-in-Some-clause-sent g c =
    sent-some g.L.Link.event (state c.args.self.now) _ c.send_whole-sent.new.link
    (carrying (map (λ h. h.now) c.args.handles.now) (take c.args.len c.args.self.now.text.value)) c.send_whole-sent.result c.in-Some.cause c.fail.result c.fail.ensures.state
    c.in_ok-expect_sound.ensures.sound c.fail.ensures.error c.in-Some.is (rw c.deref.ensures at c.send_whole-sent.ensures.sent)
