-- The answers of calls of the reverse channel, from two new sides.
use Rattle.std.proofs.Common.{ap}
use Rattle.vhost_promises.proofs.Lockstep.{fresh-run-back}
use Rattle.vhost_promises.proofs.joined.runs_back_in_lockstep.Goals as goal

pub returns : goal.returns
returns g c goes_on =
    fresh-run-back g.D.VhostUserFrontendReqHandlerMut.gives c.args.budget c.args.device c.args.scripts.0.items c.args.scripts.1.items _ c.run-ended.new.self c.args.calls.now c.args.answers.now.items c.run-ended.new.out.items c.run-ended.ensures.answers
    c.in_ok-joined.ensures.fresh c.run-ended.ensures.appended (c.run-ended.ensures.lockstep c.in_ok-joined.ensures.ready (ap (λ v. v.stopped) c.in_ok-joined.ensures.fresh)) goes_on
