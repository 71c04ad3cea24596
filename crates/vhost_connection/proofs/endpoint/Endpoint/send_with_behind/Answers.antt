use Rattle.std.proofs.Common.{refl, ◌++◌, take, map}
use Rattle.std.proofs.lemmas.List.{append-nil}
use Rattle.vhost_protocol.specs.Stream.{carrying}
use Rattle.vhost_connection.specs.State.{ahead_of, state}
use Rattle.vhost_connection.proofs.Talking.{sent-all, sent-some, sends-broken}
use Rattle.vhost_connection.proofs.Errors.{passed-on}
use Rattle.vhost_connection.proofs.endpoint.Endpoint.send_with_behind.Goals as goal

pub returns-in_err-expect_sound-clause-sent : goal.returns-in_err-expect_sound-clause-sent
unfolding ahead_of
returns-in_err-expect_sound-clause-sent g c =
    rw (passed-on c.from_residual.result c.from_residual.ensures.1) (sends-broken g.L.Link.event (state c.args.self.now) (carrying (map (λ h. h.now) c.args.handles.now) (take c.args.len c.args.self.now.text.value ++ c.args.payload.now)) _ c.in_err-expect_sound.ensures.broken)

pub returns-in-None-clause-sent : goal.returns-in-None-clause-sent
unfolding ahead_of
returns-in-None-clause-sent g c =
    sent-all g.L.Link.event (state c.args.self.now) _ c.send_pieces-sent.new.link _ c.send_pieces-sent.result refl c.in_ok-expect_sound.ensures.sound c.in-None.is
    (rw c.deref.ensures at (rw (append-nil c.args.payload.now) at c.send_pieces-sent.ensures))

pub returns-in-Some-clause-sent : goal.returns-in-Some-clause-sent
unfolding ahead_of
returns-in-Some-clause-sent g c =
    sent-some g.L.Link.event (state c.args.self.now) _ c.send_pieces-sent.new.link
    (carrying (map (λ h. h.now) c.args.handles.now) (take c.args.len c.args.self.now.text.value ++ c.args.payload.now)) c.send_pieces-sent.result c.in-Some.cause c.fail.result c.fail.ensures.state
    c.in_ok-expect_sound.ensures.sound c.fail.ensures.error c.in-Some.is (rw c.deref.ensures at (rw (append-nil c.args.payload.now) at c.send_pieces-sent.ensures))
