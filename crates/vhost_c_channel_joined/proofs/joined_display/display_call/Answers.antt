-- The call is asked, its message comes to the display, and the reply back.
use Rattle.std.proofs.Common.{sym, ap, subst, ◌∙◌}
use Rattle.vhost_link.specs.Ends.{Ends}
use Rattle.vhost_c_channel_joined.specs.JoinedDisplay.{Does}
use Rattle.vhost_c_channel_joined.proofs.JoiningDisplay.{answered, begins, come-halts, heard, message-shown, not-asked, on-ok, send-halts, sendable, silent}
use Rattle.vhost_c_channel_joined.proofs.joined_display.display_call.Goals as goal

pub returns-in-Err : goal.returns-in-Err
returns-in-Err c idle allowed =
    let a = c.in-Err.ensures c.args.turn.now.pixels.now allowed.pixels in
    subst (λ x. Does c.args.turn.now c.args.display.now.pending x c.ask.new.self c.args.display.now.pending) (sym c.of_refusal.ensures)
    (not-asked c.args.turn.now c.args.session.now c.ask.new.self idle a.1 c.args.display.now.pending c.in-Err.refusal a.0)

pub returns-in-Err-send : goal.returns-in-Err-send
returns-in-Err-send c idle allowed =
    let a = c.in-Ok.ensures c.args.turn.now.pixels.now allowed.pixels in
    send-halts c.args.turn.now c.args.display.now.pending c.send.new.display.pending c.ask.new.self c.send.new.session c.in-Err-send.halt (c.in-Err-send.ensures (sendable c.args.turn.now allowed c.args.session.now c.ask.new.self idle a))

pub returns-in-Ok-receive : goal.returns-in-Ok-receive
returns-in-Ok-receive c idle allowed =
    let t = c.args.turn.now in let s0 = c.args.session.now in let s1 = c.ask.new.self in let s2 = c.send.new.session in let s3 = c.receive.new.session in
    let before = c.args.display.now.pending in let after = c.send.new.display.pending in
    let a = c.in-Ok.ensures t.pixels.now allowed.pixels in
    let m = c.in-Ok-send.ensures (sendable t allowed s0 s1 idle a) in
    let came = c.in-Ok-receive.ensures (begins t allowed s0 s1 idle a before after s2 m.0 m.1) in
    answered t allowed s0 s1 idle a before after s2 m.0 m.1 s3 before c.push.new.self.pending c.take.new.session c.take.result
    (message-shown t allowed s0 s1 idle a before after s2 m.0 m.1 c.push.new.self.pending (ap {A = Ends} (λ l. l.pending) (on-ok c.push.result (sym c.is_err.ensures.value ∙ c.if-is_err.false) c.push.ensures.pushed)))
    (c.take.ensures t.pixels.now t.reply.now (heard t allowed s0 s1 idle a before after s2 m.0 m.1 s3 came.0 came.1 came.2))

pub returns-in-Err-receive : goal.returns-in-Err-receive
returns-in-Err-receive c idle allowed =
    let t = c.args.turn.now in let s0 = c.args.session.now in let s1 = c.ask.new.self in let s2 = c.send.new.session in let s3 = c.receive.new.session in
    let before = c.args.display.now.pending in let after = c.send.new.display.pending in
    let a = c.in-Ok.ensures t.pixels.now allowed.pixels in
    let m = c.in-Ok-send.ensures (sendable t allowed s0 s1 idle a) in
    come-halts t s2 s3 c.in-Err-receive.halt (c.in-Err-receive.ensures (begins t allowed s0 s1 idle a before after s2 m.0 m.1)) (silent t allowed s0 s1 idle a before after s2 m.0 m.1 s3)
