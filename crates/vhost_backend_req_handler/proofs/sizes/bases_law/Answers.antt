-- Each number is a word.
use Rattle.std.proofs.Common.{arith}
use Rattle.vhost_backend_req_handler.proofs.Fitting.{all-fit}
use Rattle.vhost_backend_req_handler.proofs.sizes.bases_law.Goals as goal

pub returns : goal.returns
returns c = all-fit c.args.bases.now (λ i. omega (arith, c.type_inv.bases i))
