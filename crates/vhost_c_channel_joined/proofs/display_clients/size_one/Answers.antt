-- A screen is given its size.
use Rattle.std.proofs.Common.{[], refl}
use Rattle.vhost_c_channel_joined.proofs.Sizing.{one, refused-wants}
use Rattle.vhost_c_channel_joined.proofs.display_clients.size_one.Goals as goal

pub returns-in-Ok : goal.returns-in-Ok
returns-in-Ok c cells is = one cells c.args.display.now is c.ask.new.self c.take.new.self c.take.result (c.in-Ok.ensures [] refl) c.take.ensures

pub returns-in-Err : goal.returns-in-Err
returns-in-Err c cells is = refused-wants cells c.args.display.now is c.ask.new.self c.in-Err.refusal (c.in-Err.ensures [] refl).0
