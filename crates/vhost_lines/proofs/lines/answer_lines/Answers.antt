use Rattle.std.specs.Prelude.{Some, None, true, false}
use Rattle.std.proofs.Common.{◌≡◌, refl, sym, ◌∙◌}
use Rattle.vhost_lines.specs.Calls.{call_in}
use Rattle.vhost_lines.specs.Lines.{passes}
use Rattle.vhost_frontend_core.specs.Values.{call_of}
use Rattle.vhost_lines.specs.Session.{IsFresh, Steps, request_of, reply_of, stopped_of}
use Rattle.vhost_lines.proofs.Progress.{goes-more, goes-past, shown-end, shown-bad, bad-end, bad-found, front-none, front-now, front-next}
use Rattle.vhost_lines.proofs.lines.answer_lines.Goals as goal

pub returns-in_err-session-clause-front : goal.returns-in_err-session-clause-front
returns-in_err-session-clause-front g c = front-none c.args.comments Steps request_of reply_of stopped_of (IsFresh c.args.profile) _ _ _ (c.args.alloc, refl)

pub returns-in-Ok-false-clause-shown : goal.returns-in-Ok-false-clause-shown
returns-in-Ok-false-clause-shown g c =
    shown-end c.args.comments Steps request_of reply_of stopped_of (IsFresh c.args.profile) _ _ _ _ _ _ _ _ _ (c.in_ok-session.ensures {u = tt}) c.loop-number.invariant (rw c.in-Ok-false.field-0-test at (c.in-Ok-false.ensures {u = tt}))

pub returns-in-Ok-false-clause-bad : goal.returns-in-Ok-false-clause-bad
returns-in-Ok-false-clause-bad g c =
    bad-end c.args.comments Steps request_of reply_of stopped_of _ _ _ _ _ _ _ _ _ c.loop-number.invariant (rw c.in-Ok-false.field-0-test at (c.in-Ok-false.ensures {u = tt}))

pub returns-in-Ok-false-clause-front : goal.returns-in-Ok-false-clause-front
returns-in-Ok-false-clause-front g c = front-now c.args.comments Steps request_of reply_of stopped_of (IsFresh c.args.profile) _ _ _ _ _ _ _ (c.in_ok-session.ensures {u = tt}) c.loop-number.invariant

pub returns-in-Err-clause-front : goal.returns-in-Err-clause-front
returns-in-Err-clause-front g c = front-now c.args.comments Steps request_of reply_of stopped_of (IsFresh c.args.profile) _ _ _ _ _ _ _ (c.in_ok-session.ensures {u = tt}) c.loop-number.invariant

pub returns-in_err-call-clause-front : goal.returns-in_err-call-clause-front
returns-in_err-call-clause-front g c = front-now c.args.comments Steps request_of reply_of stopped_of (IsFresh c.args.profile) _ _ _ _ _ _ _ (c.in_ok-session.ensures {u = tt}) c.loop-number.invariant

pub returns-in-None-clause-shown : goal.returns-in-None-clause-shown
returns-in-None-clause-shown g c =
    let full : passes c.args.comments c.read_line.new.line.items ≡ false = rw c.deref.ensures.value at (sym c.passes.ensures ∙ c.if-passes.false) in
    let none : None ≡ call_in c.read_line.new.line.items = rw c.deref-in-loop-number.ensures.value at (rw c.in-None.is at (c.in_ok-call.ensures {u = tt})) in
    shown-bad c.args.comments Steps request_of reply_of stopped_of (IsFresh c.args.profile) _ _ _ _ _ _ _ _ _ (c.in_ok-session.ensures {u = tt}) c.loop-number.invariant (rw c.in-Ok-true.field-0-test at (c.in-Ok-true.ensures {u = tt})) full none

pub returns-in-None-clause-bad : goal.returns-in-None-clause-bad
returns-in-None-clause-bad g c =
    let full : passes c.args.comments c.read_line.new.line.items ≡ false = rw c.deref.ensures.value at (sym c.passes.ensures ∙ c.if-passes.false) in
    let none : None ≡ call_in c.read_line.new.line.items = rw c.deref-in-loop-number.ensures.value at (rw c.in-None.is at (c.in_ok-call.ensures {u = tt})) in
    bad-found c.args.comments Steps request_of reply_of stopped_of _ _ _ _ _ _ _ _ _ c.loop-number.invariant (rw c.in-Ok-true.field-0-test at (c.in-Ok-true.ensures {u = tt})) full none

pub returns-in-None-clause-front : goal.returns-in-None-clause-front
returns-in-None-clause-front g c = front-now c.args.comments Steps request_of reply_of stopped_of (IsFresh c.args.profile) _ _ _ _ _ _ _ (c.in_ok-session.ensures {u = tt}) c.loop-number.invariant

pub returns-in_err-show_call-in-Some-clause-front : goal.returns-in_err-show_call-in-Some-clause-front
returns-in_err-show_call-in-Some-clause-front g c = front-now c.args.comments Steps request_of reply_of stopped_of (IsFresh c.args.profile) _ _ _ _ _ _ _ (c.in_ok-session.ensures {u = tt}) c.loop-number.invariant

pub returns-in_err-write_line-in-Some-clause-front : goal.returns-in_err-write_line-in-Some-clause-front
returns-in_err-write_line-in-Some-clause-front g c =
    let full : passes c.args.comments c.read_line.new.line.items ≡ false = rw c.deref.ensures.value at (sym c.passes.ensures ∙ c.if-passes.false) in
    let some : Some (call_of c.in-Some.call) ≡ call_in c.read_line.new.line.items = rw c.deref-in-loop-number.ensures.value at (rw c.in-Some.is at (c.in_ok-call.ensures {u = tt})) in
    front-next c.args.comments Steps request_of reply_of stopped_of (IsFresh c.args.profile) _ _ _ _ _ _ _ c.read_line.new.line.items (call_of c.in-Some.call) c.show_call.new.shown.items c.show_call.new.session _ _
    (c.in_ok-session.ensures {u = tt}) c.loop-number.invariant (rw c.in-Ok-true.field-0-test at (c.in-Ok-true.ensures {u = tt})) full some (rw c.deref_mut.ensures.value at (c.in_ok-show_call-in-Some.ensures {u = tt}))
    (rw c.deref-in-Some.ensures.value at (c.in_err-write_line-in-Some.ensures {u = tt}))

pub returns-clause-front : goal.returns-clause-front
returns-clause-front g c = front-now c.args.comments Steps request_of reply_of stopped_of (IsFresh c.args.profile) _ _ _ _ _ _ _ (c.in_ok-session.ensures {u = tt}) c.loop-number.invariant

pub loop-number-preserved : goal.loop-number-preserved
loop-number-preserved g c =
    let full : passes c.args.comments c.read_line.new.line.items ≡ false = rw c.deref.ensures.value at (sym c.passes.ensures ∙ c.if-passes.false) in
    let some : Some (call_of c.in-Some.call) ≡ call_in c.read_line.new.line.items = rw c.deref-in-loop-number.ensures.value at (rw c.in-Some.is at (c.in_ok-call.ensures {u = tt})) in
    goes-more c.args.comments Steps request_of reply_of stopped_of _ _ _ _ _ _ _ c.read_line.new.line.items (call_of c.in-Some.call) c.show_call.new.shown.items _ _ _ c.loop-number.invariant (rw c.in-Ok-true.field-0-test at (c.in-Ok-true.ensures {u = tt})) full some
    (rw c.deref_mut.ensures.value at (c.in_ok-show_call-in-Some.ensures {u = tt})) (rw c.deref-in-Some.ensures.value at (c.in_ok-write_line-in-Some.ensures {u = tt}))

pub loop-number-preserved-then-passes : goal.loop-number-preserved-then-passes
loop-number-preserved-then-passes g c =
    let blank : passes c.args.comments c.read_line.new.line.items ≡ true = rw c.deref.ensures.value at (sym c.passes.ensures ∙ c.if-passes.true) in
    goes-past c.args.comments Steps request_of reply_of stopped_of _ _ _ _ _ _ _ c.read_line.new.line.items _ c.loop-number.invariant (rw c.in-Ok-true.field-0-test at (c.in-Ok-true.ensures {u = tt})) blank
