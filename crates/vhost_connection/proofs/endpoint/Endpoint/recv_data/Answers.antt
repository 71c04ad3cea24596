use Rattle.std.proofs.Common.{refl}
use Rattle.vhost_connection.proofs.Errors.{passed-on}
use Rattle.vhost_connection.proofs.endpoint.Endpoint.recv_data.Goals as goal

pub returns-in_err-count : goal.returns-in_err-count
returns-in_err-count g c =
    rw (passed-on c.from_residual.result c.from_residual.ensures.1) ((refl, (λ _. tt), c.in_err-count.ensures.read), record { lender = tt; count = tt; memory = c.in_err-count.ensures.memory })
