-- A new session may report them.
use Rattle.std.proofs.Common.{[]}
use Rattle.vhost_c_channel_joined.proofs.Reporting.{begins}
use Rattle.vhost_c_channel_joined.proofs.clients.reports_changes.Goals as goal

pub returns-in-Ok-report_all-clause-sent : goal.returns-in-Ok-report_all-clause-sent
returns-in-Ok-report_all-clause-sent c = c.in-Ok-report_all.ensures [] (begins c.in-Ok.channel c.agree.new.self c.in-Ok.ensures.new c.agree.ensures)

pub returns-in-Err-report_all-clause-memory : goal.returns-in-Err-report_all-clause-memory
returns-in-Err-report_all-clause-memory c = c.in-Err-report_all.ensures [] (begins c.in-Ok.channel c.agree.new.self c.in-Ok.ensures.new c.agree.ensures)
