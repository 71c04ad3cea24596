-- A new session may hear of them.
use Rattle.std.proofs.Common.{[]}
use Rattle.vhost_c_channel_joined.proofs.Noticing.{begins}
use Rattle.vhost_c_channel_joined.proofs.serving_clients.hears_changes.Goals as goal

pub returns-in-Ok-hear_all-clause-acknowledged : goal.returns-in-Ok-hear_all-clause-acknowledged
returns-in-Ok-hear_all-clause-acknowledged c = c.in-Ok-hear_all.ensures [] (begins c.in-Ok.server c.acknowledge.new.self c.in-Ok.ensures.new c.acknowledge.ensures)

pub returns-in-Err-hear_all-clause-memory : goal.returns-in-Err-hear_all-clause-memory
returns-in-Err-hear_all-clause-memory c = c.in-Err-hear_all.ensures [] (begins c.in-Ok.server c.acknowledge.new.self c.in-Ok.ensures.new c.acknowledge.ensures)
