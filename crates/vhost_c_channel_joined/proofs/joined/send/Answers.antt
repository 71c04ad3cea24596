-- The call is asked, and its request comes over; or it was not agreed on.
use Rattle.std.proofs.Common.{inr, sym, ◌∙◌}
use Rattle.vhost_c_channel_joined.proofs.Sending.{cells, crosses, declined, on-way, refused-wants, stopped, told}
use Rattle.vhost_c_channel_joined.proofs.joined.send.Goals as goal

pub returns-in-Ok-carry_request : goal.returns-in-Ok-carry_request
returns-in-Ok-carry_request c call is steps made =
    let s0 = c.args.asker.now in let s1 = c.ask.new.self in let t0 = c.args.server.now in
    let asks = c.in-Ok.ensures call is in
    crosses call s0 s1 t0 steps made asks c.carry_request.new.from c.carry_request.new.to
    (c.in-Ok-carry_request.ensures (cells call s0 s1 t0 steps made asks) (inr (told call s0 s1 t0 steps made asks)) steps.idle (on-way call s0 s1 t0 steps made asks))

pub returns-in-Err-carry_request : goal.returns-in-Err-carry_request
returns-in-Err-carry_request c call is steps made =
    let s0 = c.args.asker.now in let s1 = c.ask.new.self in let t0 = c.args.server.now in
    let asks = c.in-Ok.ensures call is in
    stopped call s0 s1 t0 steps made asks c.carry_request.new.from c.carry_request.new.to c.in-Err-carry_request.halt
    (c.in-Err-carry_request.ensures (cells call s0 s1 t0 steps made asks) (inr (told call s0 s1 t0 steps made asks)) steps.idle (on-way call s0 s1 t0 steps made asks)).0

pub returns-then-wants_memory : goal.returns-then-wants_memory
returns-then-wants_memory c call is steps made = refused-wants call c.args.asker.now c.ask.new.self c.args.server.now steps c.in-Err.refusal (c.in-Err.ensures call is).0 (sym c.wants_memory.ensures ∙ c.if-wants_memory.true)

pub returns-else-wants_memory : goal.returns-else-wants_memory
returns-else-wants_memory c call is steps made =
    let r = c.in-Err.ensures call is in
    declined call c.args.asker.now c.ask.new.self c.args.server.now steps c.in-Err.refusal r.0 r.1 (sym c.wants_memory.ensures ∙ c.if-wants_memory.false)
