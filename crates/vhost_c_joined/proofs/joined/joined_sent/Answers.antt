-- The call is asked, its request comes over and is served, and its answer comes back and is taken.
use Rattle.std.proofs.Common.{◌≡◌, inr, false, sym, ◌∙◌}
use Rattle.std.specs.Prelude.{is_some}
use Rattle.vhost_protocol.specs.Joined.{read_as}
use Rattle.vhost_frontend_core.specs.Values.{call_of}
use Rattle.vhost_protocol.specs.Session.{heard_in}
use Rattle.vhost_c_common.specs.Incoming.{missing_by}
use Rattle.vhost_c_backend.specs.Served as served
use Rattle.vhost_c_joined.specs.Joined.{Joins}
use Rattle.vhost_c_frontend.specs.Session as session
use Rattle.vhost_c_frontend.specs.Session.{missing_for}
use Rattle.vhost_c_joined.proofs.Closing as closing
use Rattle.vhost_c_joined.proofs.Closing.{answered-so, by-refusal, failed-so, stop-halts, unasked-so, want-halts}
use Rattle.vhost_c_joined.proofs.Joining as joining
use Rattle.vhost_c_joined.proofs.Joining.{sent-so, is-due}
use Rattle.vhost_c_joined.proofs.joined.joined_sent.Goals as goal

pub returns-in-Err : goal.returns-in-Err
returns-in-Err c bit steps goes given fits offers =
    by-refusal (λ x. Joins bit (call_of c.args.call) c.args.reply c.args.front.now c.args.back.now x c.ask.new.self c.args.back.now) c.in-Err.refusal c.of_refusal.result c.of_refusal.ensures (λ want. want)
    (unasked-so bit (call_of c.args.call) c.args.reply c.args.front.now c.ask.new.self c.args.back.now c.in-Err.refusal steps c.in-Err.ensures.0.0 c.in-Err.ensures.0.1)

pub returns-in-Err-carry_request : goal.returns-in-Err-carry_request
returns-in-Err-carry_request c bit steps goes given fits offers =
    let call = call_of c.args.call in let r = c.args.reply in let f0 = c.args.front.now in let f1 = c.ask.new.self in let b0 = c.args.back.now in
    let s = sent-so call f0 f1 goes c.in-Ok.ensures.0 in
    stop-halts bit call r f0 c.carry_request.new.from b0 c.carry_request.new.to (missing_by (heard_in (served.remembers b0))) (joining.request bit call given f0 f1 b0 steps s) c.in-Err-carry_request.halt (λ none. cc none.0)
    (c.in-Err-carry_request.ensures s.w.handles (joining.request bit call given f0 f1 b0 steps s) (inr (joining.told bit call given f0 f1 b0 steps s)) steps.idle (joining.on-way bit call given f0 f1 b0 steps s))

pub returns-in-Err-serve : goal.returns-in-Err-serve
returns-in-Err-serve c bit steps goes given fits offers =
    let call = call_of c.args.call in let r = c.args.reply in let f0 = c.args.front.now in let f1 = c.ask.new.self in let b0 = c.args.back.now in
    let s = sent-so call f0 f1 goes c.in-Ok.ensures.0 in
    let f2 = c.carry_request.new.from in let b1 = c.carry_request.new.to in
    let over = c.in-Ok-carry_request.ensures s.w.handles (joining.request bit call given f0 f1 b0 steps s) (inr (joining.told bit call given f0 f1 b0 steps s)) steps.idle (joining.on-way bit call given f0 f1 b0 steps s) in
    want-halts bit call r f0 f2 b0 c.serve.new.back (read_as s.w) (served.remembers b1) c.in-Err-serve.halt (c.in-Err-serve.ensures (read_as s.w) (is-due bit call given f0 f1 b0 steps s f2 b1 over))

pub returns-then-ended : goal.returns-then-ended
returns-then-ended c bit steps goes given fits offers =
    let call = call_of c.args.call in let r = c.args.reply in let f0 = c.args.front.now in let f1 = c.ask.new.self in let b0 = c.args.back.now in
    let s = sent-so call f0 f1 goes c.in-Ok.ensures.0 in
    let f2 = c.carry_request.new.from in let b1 = c.carry_request.new.to in
    let over = c.in-Ok-carry_request.ensures s.w.handles (joining.request bit call given f0 f1 b0 steps s) (inr (joining.told bit call given f0 f1 b0 steps s)) steps.idle (joining.on-way bit call given f0 f1 b0 steps s) in
    let b2 = c.serve.new.back in
    closing.ended-so bit call given r f0 f1 f2 b0 b1 b2 steps s over (c.in-Ok-serve.ensures (read_as s.w) (is-due bit call given f0 f1 b0 steps s f2 b1 over)) c.ended.result c.ended.ensures c.if-ended.true

pub returns-in-Err-carry_reply : goal.returns-in-Err-carry_reply
returns-in-Err-carry_reply c bit steps goes given fits offers =
    let call = call_of c.args.call in let r = c.args.reply in let f0 = c.args.front.now in let f1 = c.ask.new.self in let b0 = c.args.back.now in
    let s = sent-so call f0 f1 goes c.in-Ok.ensures.0 in
    let f2 = c.carry_request.new.from in let b1 = c.carry_request.new.to in
    let over = c.in-Ok-carry_request.ensures s.w.handles (joining.request bit call given f0 f1 b0 steps s) (inr (joining.told bit call given f0 f1 b0 steps s)) steps.idle (joining.on-way bit call given f0 f1 b0 steps s) in
    let b2 = c.serve.new.back in
    let met = c.in-Ok-serve.ensures (read_as s.w) (is-due bit call given f0 f1 b0 steps s f2 b1 over) in
    let alive : is_some (served.remembers b2).failed ≡ false = sym c.ended.ensures ∙ c.if-ended.false in
    stop-halts bit call r f0 c.carry_reply.new.to b0 c.carry_reply.new.from (missing_for (session.remembers f2).profile f2.asked) (closing.text bit call given r fits offers f0 f1 f2 b0 b1 b2 steps s over met alive) c.in-Err-carry_reply.halt (closing.answers-come bit call given r fits offers f0 f1 f2 b0 b1 b2 steps s over met alive)
    (c.in-Err-carry_reply.ensures (closing.hs bit call given r fits offers f0 f1 f2 b0 b1 b2 steps s over met alive) (closing.text bit call given r fits offers f0 f1 f2 b0 b1 b2 steps s over met alive) (closing.told bit call given r fits offers f0 f1 f2 b0 b1 b2 steps s over met alive) (closing.on-way bit call given r fits offers f0 f1 f2 b0 b1 b2 steps s over met alive))

pub returns-in-Ok-take : goal.returns-in-Ok-take
returns-in-Ok-take c bit steps goes given fits offers =
    let call = call_of c.args.call in let r = c.args.reply in let f0 = c.args.front.now in let f1 = c.ask.new.self in let b0 = c.args.back.now in
    let s = sent-so call f0 f1 goes c.in-Ok.ensures.0 in
    let f2 = c.carry_request.new.from in let b1 = c.carry_request.new.to in
    let over = c.in-Ok-carry_request.ensures s.w.handles (joining.request bit call given f0 f1 b0 steps s) (inr (joining.told bit call given f0 f1 b0 steps s)) steps.idle (joining.on-way bit call given f0 f1 b0 steps s) in
    let b2 = c.serve.new.back in
    let met = c.in-Ok-serve.ensures (read_as s.w) (is-due bit call given f0 f1 b0 steps s f2 b1 over) in
    let alive : is_some (served.remembers b2).failed ≡ false = sym c.ended.ensures ∙ c.if-ended.false in
    let f3 = c.carry_reply.new.to in let b3 = c.carry_reply.new.from in let f4 = c.take.new.self in
    let back = c.in-Ok-carry_reply.ensures (closing.hs bit call given r fits offers f0 f1 f2 b0 b1 b2 steps s over met alive) (closing.text bit call given r fits offers f0 f1 f2 b0 b1 b2 steps s over met alive) (closing.told bit call given r fits offers f0 f1 f2 b0 b1 b2 steps s over met alive) (closing.on-way bit call given r fits offers f0 f1 f2 b0 b1 b2 steps s over met alive) in
    answered-so bit call given r fits offers f0 f1 f2 b0 b1 b2 steps s over met alive c.talks_law.ensures.talks f3 f4 b3 back goes c.in-Ok-take.ensures.taken

pub returns-in-Err-take : goal.returns-in-Err-take
returns-in-Err-take c bit steps goes given fits offers =
    let call = call_of c.args.call in let r = c.args.reply in let f0 = c.args.front.now in let f1 = c.ask.new.self in let b0 = c.args.back.now in
    let s = sent-so call f0 f1 goes c.in-Ok.ensures.0 in
    let f2 = c.carry_request.new.from in let b1 = c.carry_request.new.to in
    let over = c.in-Ok-carry_request.ensures s.w.handles (joining.request bit call given f0 f1 b0 steps s) (inr (joining.told bit call given f0 f1 b0 steps s)) steps.idle (joining.on-way bit call given f0 f1 b0 steps s) in
    let b2 = c.serve.new.back in
    let met = c.in-Ok-serve.ensures (read_as s.w) (is-due bit call given f0 f1 b0 steps s f2 b1 over) in
    let alive : is_some (served.remembers b2).failed ≡ false = sym c.ended.ensures ∙ c.if-ended.false in
    let f3 = c.carry_reply.new.to in let b3 = c.carry_reply.new.from in let f4 = c.take.new.self in
    let back = c.in-Ok-carry_reply.ensures (closing.hs bit call given r fits offers f0 f1 f2 b0 b1 b2 steps s over met alive) (closing.text bit call given r fits offers f0 f1 f2 b0 b1 b2 steps s over met alive) (closing.told bit call given r fits offers f0 f1 f2 b0 b1 b2 steps s over met alive) (closing.on-way bit call given r fits offers f0 f1 f2 b0 b1 b2 steps s over met alive) in
    by-refusal (λ x. Joins bit call r f0 b0 x f4 b3) c.in-Err-take.refusal c.of_refusal-in-Err-take.result c.of_refusal-in-Err-take.ensures (λ want. want)
    (λ free. failed-so bit call given r fits offers f0 f1 f2 b0 b1 b2 steps s over met alive c.talks_law.ensures.talks f3 f4 b3 back c.in-Err-take.refusal free c.in-Err-take.ensures.taken)
