use Rattle.std.proofs.Common.{refl}
use Rattle.vhost_c_backend.proofs.Serving.{concludes}
use Rattle.vhost_c_backend.proofs.served.Served.conclude.Goals as goal

pub returns-clause-concluded : goal.returns-clause-concluded
returns-clause-concluded c = λ m x. concludes c.talks_law.ensures.talks c.concludes_row.ensures m c.args.answer c.args.self.now _ c.conclude.result (λ p is. c.conclude.ensures.concluded p is x.read.ready) refl x
