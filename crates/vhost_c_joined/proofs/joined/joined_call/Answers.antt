-- A message goes out for a call, or it is done at once.
use Rattle.vhost_frontend_core.specs.Values.{call_of}
use Rattle.vhost_c_joined.specs.Joined.{Joins}
use Rattle.vhost_c_joined.proofs.Closing.{by-refusal, flags-so, unasked-so}
use Rattle.vhost_c_joined.proofs.joined.joined_call.Goals as goal

pub returns-then-is_sent : goal.returns-then-is_sent
returns-then-is_sent c bit steps plain given fits offers = c.joined_sent.ensures bit steps (c.is_sent.ensures.sent c.if-is_sent.true) given fits offers

pub returns-in-Ok : goal.returns-in-Ok
returns-in-Ok c bit steps plain given fits offers =
    let flags = c.is_sent.ensures.flags c.if-is_sent.false in
    flags-so bit (call_of c.args.call) c.args.reply c.args.front.now c.ask.new.self c.args.back.now flags.0 flags.1 steps plain c.in-Ok.ensures.0

pub returns-in-Err : goal.returns-in-Err
returns-in-Err c bit steps plain given fits offers =
    by-refusal (λ x. Joins bit (call_of c.args.call) c.args.reply c.args.front.now c.args.back.now x c.ask.new.self c.args.back.now) c.in-Err.refusal c.of_refusal.result c.of_refusal.ensures (λ want. want)
    (unasked-so bit (call_of c.args.call) c.args.reply c.args.front.now c.ask.new.self c.args.back.now c.in-Err.refusal steps c.in-Err.ensures.0.0 c.in-Err.ensures.0.1)
