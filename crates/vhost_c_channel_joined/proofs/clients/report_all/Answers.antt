-- One more was reported, and then all.
use Rattle.std.proofs.Common.{◌≡◌, ◌++◌, arith, subst}
use Rattle.vhost_c_channel_joined.specs.Clients.{IsReporting, reports}
use Rattle.vhost_c_channel_joined.proofs.Reporting.{more}
use Rattle.vhost_c_channel_joined.proofs.clients.report_all.Goals as goal

pub reports-preserved : goal.reports-preserved
reports-preserved c = record { reporting = λ cells is. more cells c.reports.counter c.report_one.new.channel (c.in-Ok.ensures (cells ++ reports c.reports.counter) (c.reports.invariant.reporting cells is)) }

pub returns : goal.returns
returns c cells is =
    let all : c.reports.counter ≡ c.args.count = omega (arith, c.reports-test.false, c.reports.auto.counter-end) in
    subst (λ n. IsReporting (cells ++ reports n) c.reports.channel) all (c.reports.invariant.reporting cells is)

pub returns-in-Err : goal.returns-in-Err
returns-in-Err c cells is = c.in-Err.ensures (cells ++ reports c.reports.counter) (c.reports.invariant.reporting cells is)
