-- So many were reported.
use Rattle.std.proofs.Common.{◌++◌, List}
use Rattle.vhost_protocol.specs.Stream.{Cell}
use Rattle.vhost_link.specs.declared.plain.PlainHandle.{PlainHandle}
use Rattle.vhost_c_channel_joined.specs.Clients.{IsReporting, reports}
use Rattle.vhost_c_channel_joined.proofs.clients.report_all.Given as goal

abbrev pub invariant-reports : goal.invariant-reports
invariant-reports l = record {
  reporting : (cells : List (Cell PlainHandle)) → IsReporting cells l.fn.channel → IsReporting (cells ++ reports l.counter) l.channel;
}
