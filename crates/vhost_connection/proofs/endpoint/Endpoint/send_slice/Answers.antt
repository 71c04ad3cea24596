use Rattle.std.proofs.Common.{map}
use Rattle.vhost_connection.specs.State.{ahead_of, state}
use Rattle.vhost_connection.proofs.Talking.{once-broken, sent-once, refused-once}
use Rattle.vhost_connection.proofs.Errors.{passed-on}
use Rattle.vhost_connection.proofs.endpoint.Endpoint.send_slice.Goals as goal

pub returns-in_err-expect_sound-clause-sent : goal.returns-in_err-expect_sound-clause-sent
unfolding ahead_of
returns-in_err-expect_sound-clause-sent g c =
    λ few some. rw (passed-on c.from_residual.result c.from_residual.ensures.1) (once-broken g.L.Link.event (state c.args.self.now) (map (λ h. h.now) c.args.handles.now) c.args.bytes.now _ c.in_err-expect_sound.ensures.broken)

pub returns-in-Ok-clause-sent : goal.returns-in-Ok-clause-sent
unfolding ahead_of
returns-in-Ok-clause-sent g c =
    λ few some. sent-once g.L.Link.event (state c.args.self.now) c.send_once.new.link (map (λ h. h.now) c.args.handles.now) c.args.bytes.now c.in-Ok.count c.in_ok-expect_sound.ensures.sound
    c.in-Ok.ensures

pub returns-in-Err-clause-sent : goal.returns-in-Err-clause-sent
unfolding ahead_of
returns-in-Err-clause-sent g c =
    λ few some. refused-once g.L.Link.event (state c.args.self.now) (state c.fail.new.self) c.send_once.new.link (map (λ h. h.now) c.args.handles.now) c.args.bytes.now c.in-Err.cause c.fail.result c.fail.ensures.state c.in_ok-expect_sound.ensures.sound
    c.fail.ensures.error c.in-Err.ensures
