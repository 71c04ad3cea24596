-- A new session may own one.
use Rattle.std.proofs.Common.{[]}
use Rattle.vhost_c_frontend.proofs.Owning.{begins}
use Rattle.vhost_c_frontend.proofs.clients.owns_a_backend.Goals as goal

pub returns-in-Ok-own_all-clause-sent : goal.returns-in-Ok-own_all-clause-sent
returns-in-Ok-own_all-clause-sent c = c.in-Ok-own_all.ensures c.args.max_queue_num c.args.profile [] (begins c.args.max_queue_num c.args.profile c.in-Ok.session c.set_profile.new.self c.in-Ok.ensures.new c.set_profile.ensures)

pub returns-in-Err-own_all-clause-memory : goal.returns-in-Err-own_all-clause-memory
returns-in-Err-own_all-clause-memory c = c.in-Err-own_all.ensures c.args.max_queue_num c.args.profile [] (begins c.args.max_queue_num c.args.profile c.in-Ok.session c.set_profile.new.self c.in-Ok.ensures.new c.set_profile.ensures)
