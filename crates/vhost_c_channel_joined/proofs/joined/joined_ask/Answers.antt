-- The request goes over, is served, and its reply comes back; or the call was not agreed on.
use Rattle.std.proofs.Common.{Result, Ok, Err, false, sym, subst}
use Rattle.std.specs.Prelude.{⊤}
use Rattle.vhost_protocol.specs.IoError.{seen_io_result}
use Rattle.vhost_protocol.specs.Joined.{read_as}
use Rattle.vhost_protocol.specs.JoinedReverse.{Asks, ReverseInput}
use Rattle.vhost_link.specs.declared.plain.PlainHandle.{PlainHandle}
use Rattle.vhost_backend_req.specs.Halves.{input_of}
use Rattle.vhost_c_common.specs.declared.refusal.Refusal.{Refusal}
use Rattle.vhost_c_channel_joined.specs.Crossing.{Crossing}
use Rattle.vhost_c_channel_joined.specs.Joined.{IsMade, Joins}
use Rattle.vhost_c_channel.specs.Serving.{remembers}
use Rattle.vhost_c_channel_joined.proofs.Joining.{back-joins, declined, known, number, plain, send-halts, serve-halts, the-call}
use Rattle.vhost_c_channel_joined.proofs.joined.joined_ask.Goals as goal

pub returns-in-Ok : goal.returns-in-Ok
returns-in-Ok c steps allowed =
    let one = the-call (input_of c.args.call.now) c.requires in let call = one.call in let a = seen_io_result c.args.answer in
    let s0 = c.args.asker.now in let s1 = c.send.new.asker in let t0 = c.args.server.now in let t1 = c.send.new.server in let t2 = c.serve.new.server in
    let made : IsMade (Asks call) = subst {A = ReverseInput PlainHandle} IsMade one.is allowed in
    let x = subst {A = Result ⊤ Refusal} (λ r. Crossing call s0 t0 (Ok r) s1 t1) c.in-Ok-Ok.field-0-is (c.in-Ok-Ok.ensures call one.is steps made) in
    let met = c.in-Ok.ensures (read_as x.w) x.due in
    subst {A = ReverseInput PlainHandle} (λ i. Joins (i, a) s0 t0 c.come_back.result c.come_back.new.asker c.come_back.new.server) (sym one.is)
    (back-joins call a s0 s1 t0 t1 steps made x c.in-Ok.failed t2 met c.come_back.result c.come_back.new.asker c.come_back.new.server
    (c.come_back.ensures x.w x.awaited met.outcome.served (known call a s0 s1 t0 t1 steps made x c.in-Ok.failed t2 met).0 x.asked (plain call a s0 s1 t0 t1 steps made x c.in-Ok.failed t2 met) met.holds
    (number call a s0 s1 t0 t1 steps made x c.in-Ok.failed t2 met) (known call a s0 s1 t0 t1 steps made x c.in-Ok.failed t2 met).1))

pub returns-in-Err-serve : goal.returns-in-Err-serve
returns-in-Err-serve c steps allowed =
    let one = the-call (input_of c.args.call.now) c.requires in let call = one.call in let a = seen_io_result c.args.answer in
    let s0 = c.args.asker.now in let s1 = c.send.new.asker in let t0 = c.args.server.now in let t1 = c.send.new.server in
    let made : IsMade (Asks call) = subst {A = ReverseInput PlainHandle} IsMade one.is allowed in
    let x = subst {A = Result ⊤ Refusal} (λ r. Crossing call s0 t0 (Ok r) s1 t1) c.in-Ok-Ok.field-0-is (c.in-Ok-Ok.ensures call one.is steps made) in
    subst {A = ReverseInput PlainHandle} (λ i. Joins (i, a) s0 t0 (Err c.in-Err-serve.halt) s1 c.serve.new.server) (sym one.is)
    (serve-halts call a s0 s1 t0 c.serve.new.server (read_as x.w) (remembers t1) c.in-Err-serve.halt (c.in-Err-serve.ensures (read_as x.w) x.due))

pub returns-in-Ok-Err : goal.returns-in-Ok-Err
returns-in-Ok-Err c steps allowed =
    let one = the-call (input_of c.args.call.now) c.requires in let call = one.call in let a = seen_io_result c.args.answer in
    let s0 = c.args.asker.now in let s1 = c.send.new.asker in let t0 = c.args.server.now in let t1 = c.send.new.server in
    let made : IsMade (Asks call) = subst {A = ReverseInput PlainHandle} IsMade one.is allowed in
    let x = subst {A = Result ⊤ Refusal} (λ r. Crossing call s0 t0 (Ok r) s1 t1) c.in-Ok-Err.field-0-is (c.in-Ok-Err.ensures call one.is steps made) in
    subst {A = ReverseInput PlainHandle} (λ i. Joins (i, a) s0 t0 (Ok (record { outcome = Err c.in-Ok-Err.refusal; last = false })) s1 t1) (sym one.is)
    (declined call a s0 s1 t0 t1 steps c.in-Ok-Err.refusal x)

pub returns-in-Err : goal.returns-in-Err
returns-in-Err c steps allowed =
    let one = the-call (input_of c.args.call.now) c.requires in let call = one.call in let a = seen_io_result c.args.answer in
    let s0 = c.args.asker.now in let s1 = c.send.new.asker in let t0 = c.args.server.now in let t1 = c.send.new.server in
    let made : IsMade (Asks call) = subst {A = ReverseInput PlainHandle} IsMade one.is allowed in
    subst {A = ReverseInput PlainHandle} (λ i. Joins (i, a) s0 t0 (Err c.in-Err.halt) s1 t1) (sym one.is)
    (send-halts call a s0 s1 t0 t1 c.in-Err.halt (c.in-Err.ensures call one.is steps made))
