-- A call about shared memory, by both halves.
use Rattle.vhost_connection.proofs.Errors.{passed-on}
use Rattle.vhost_backend_req.proofs.Answered.{ends-unsent, by-halves}
use Rattle.vhost_backend_req.proofs.internal.BackendInternal.ask_mapping.Goals as goal

pub returns-in_err-sent : goal.returns-in_err-sent
returns-in_err-sent g c = rw (passed-on c.from_residual.result c.from_residual.ensures.1) (ends-unsent g.L.Link.event _ _ c.in_err-sent.ensures)

pub returns : goal.returns
returns g c = by-halves g.L.Link.event _ _ c.take_half.result _ c.in_ok-sent.sent c.in_ok-sent.ensures c.take_half.ensures.same c.take_half.ensures.taken
