-- A new session may do so.
use Rattle.std.proofs.Common.{[]}
use Rattle.vhost_c_channel_joined.proofs.Sizing.{begins}
use Rattle.vhost_c_channel_joined.proofs.display_clients.sizes_a_screen.Goals as goal

pub returns-in-Ok-size_all-clause-sent : goal.returns-in-Ok-size_all-clause-sent
returns-in-Ok-size_all-clause-sent c = c.in-Ok-size_all.ensures [] (begins c.in-Ok.display c.in-Ok.ensures.new)

pub returns-in-Err-size_all-clause-memory : goal.returns-in-Err-size_all-clause-memory
returns-in-Err-size_all-clause-memory c = c.in-Err-size_all.ensures [] (begins c.in-Ok.display c.in-Ok.ensures.new)
