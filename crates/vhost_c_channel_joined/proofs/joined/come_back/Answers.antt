-- The reply comes back, and is taken.
use Rattle.std.proofs.Common.{sym, ◌∙◌}
use Rattle.vhost_c_channel_joined.specs.Crossing.{reply_to}
use Rattle.vhost_c_channel_joined.proofs.Returning.{on-way, stops, taken-fine, taken-refused, taken-wants, told}
use Rattle.vhost_c_channel_joined.proofs.joined.come_back.Goals as goal

pub returns-in-Err : goal.returns-in-Err
returns-in-Err c w awaited served heard asked plain holds number known =
    let s = c.args.asker.now in let t = c.args.server.now in
    stops w awaited served heard c.args.failed s t asked plain holds number known c.carry_reply.new.to c.carry_reply.new.from c.in-Err.halt
    (c.in-Err.ensures (reply_to w.request served) (told w awaited served heard c.args.failed s t asked plain holds number known) (on-way w awaited served heard c.args.failed s t asked plain holds number known))

pub returns-in-Ok-take : goal.returns-in-Ok-take
returns-in-Ok-take c w awaited served heard asked plain holds number known =
    let s = c.args.asker.now in let t = c.args.server.now in
    let over = c.in-Ok.ensures (reply_to w.request served) (told w awaited served heard c.args.failed s t asked plain holds number known) (on-way w awaited served heard c.args.failed s t asked plain holds number known) in
    taken-fine w awaited served heard c.args.failed s t asked plain holds number known c.carry_reply.new.to c.take.new.self c.carry_reply.new.from over c.missing-missing.result c.missing-missing.ensures.missing _ c.is_unheard-last.ensures c.in-Ok-take.ensures

pub returns-then-wants_memory : goal.returns-then-wants_memory
returns-then-wants_memory c w awaited served heard asked plain holds number known =
    let s = c.args.asker.now in let t = c.args.server.now in
    let over = c.in-Ok.ensures (reply_to w.request served) (told w awaited served heard c.args.failed s t asked plain holds number known) (on-way w awaited served heard c.args.failed s t asked plain holds number known) in
    taken-wants w awaited served heard c.args.failed s t asked plain holds number known c.carry_reply.new.to c.take.new.self c.carry_reply.new.from over c.in-Err-take.refusal (sym c.wants_memory.ensures ∙ c.if-wants_memory.true) c.in-Err-take.ensures

pub returns-else-wants_memory : goal.returns-else-wants_memory
returns-else-wants_memory c w awaited served heard asked plain holds number known =
    let s = c.args.asker.now in let t = c.args.server.now in
    let over = c.in-Ok.ensures (reply_to w.request served) (told w awaited served heard c.args.failed s t asked plain holds number known) (on-way w awaited served heard c.args.failed s t asked plain holds number known) in
    taken-refused w awaited served heard c.args.failed s t asked plain holds number known c.carry_reply.new.to c.take.new.self c.carry_reply.new.from over c.missing-missing.result c.missing-missing.ensures.missing _ c.is_unheard-last.ensures c.in-Err-take.refusal (sym c.wants_memory.ensures ∙ c.if-wants_memory.false) c.in-Err-take.ensures
