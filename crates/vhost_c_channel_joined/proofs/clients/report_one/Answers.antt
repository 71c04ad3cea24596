-- One change is reported.
use Rattle.std.proofs.Common.{refl}
use Rattle.vhost_protocol.specs.Reverse.{HandleConfigChange}
use Rattle.vhost_c_channel_joined.proofs.Reporting.{one, refused-wants}
use Rattle.vhost_c_channel_joined.proofs.clients.report_one.Goals as goal

pub returns-in-Ok : goal.returns-in-Ok
returns-in-Ok c cells is = one cells c.args.channel.now is c.ask.new.self c.take.new.self c.take.result (c.in-Ok.ensures HandleConfigChange refl) c.take.ensures

pub returns-in-Err : goal.returns-in-Err
returns-in-Err c cells is = refused-wants cells c.args.channel.now is c.ask.new.self c.in-Err.refusal (c.in-Err.ensures HandleConfigChange refl).0
