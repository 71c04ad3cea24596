-- The answers of calls from two new sides.
use Rattle.std.proofs.Common.{inr, ap, ◌∙◌}
use Rattle.vhost_promises.proofs.Hungry.{stopped-hungry}
use Rattle.vhost_promises.proofs.Lockstep.{fresh-run}
use Rattle.vhost_promises.proofs.joined.runs_in_lockstep.Goals as goal
use Rattle.vhost_device.specs.Reached.{by_trait}

pub returns-clause-run : goal.returns-clause-run
returns-clause-run g c bit offers plain goes_on =
    fresh-run (by_trait g.D.VhostUserBackendReqHandlerMut.gives) bit c.args.max_queue_num c.args.budget c.args.device c.args.scripts.0.items c.args.scripts.1.items _ c.run-ended.new.self c.args.calls.now c.args.answers.now.items c.run-ended.new.out.items c.run-ended.ensures.answers
    c.in_ok-joined.ensures.fresh c.run-ended.ensures.appended (c.run-ended.ensures.lockstep bit (inr offers) (c.in_ok-joined.ensures.ready bit) (ap (λ v. v.stopped) c.in_ok-joined.ensures.fresh) plain) goes_on

pub returns-clause-memory : goal.returns-clause-memory
returns-clause-memory g c bit offers plain asking serving premise =
    stopped-hungry (by_trait g.D.VhostUserBackendReqHandlerMut.gives) bit _ c.run-ended.new.self c.args.calls.now c.run-ended.ensures.answers
    (ap (λ v. v.asking.script) c.in_ok-joined.ensures.fresh ∙ asking) (ap (λ v. v.serving.script) c.in_ok-joined.ensures.fresh ∙ serving)
    (c.run-ended.ensures.lockstep bit (inr offers) (c.in_ok-joined.ensures.ready bit) (ap (λ v. v.stopped) c.in_ok-joined.ensures.fresh) plain) premise
