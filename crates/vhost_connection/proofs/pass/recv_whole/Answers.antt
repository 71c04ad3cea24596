use Rattle.std.proofs.Common.{arith}
use Rattle.vhost_connection.specs.Ahead.{reads_ahead}
use Rattle.vhost_connection.proofs.Receiving.{first-and-rest}
use Rattle.vhost_connection.proofs.pass.recv_whole.Goals as goal

pub returns-clause-got : goal.returns-clause-got
returns-clause-got g c = first-and-rest (reads_ahead g.L.Link.event) _ _ _ _ _ _ _ _ _ _ c.recv_rest-rest.result (rw c.in_default.is at c.recv_first-first.ensures.got.1) (omega arith) c.recv_first-first.ensures.got.0 c.recv_rest-rest.ensures.got
