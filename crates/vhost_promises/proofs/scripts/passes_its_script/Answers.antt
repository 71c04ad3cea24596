use Rattle.vhost_promises.proofs.ByScript.{no-fault, takes-cut}
use Rattle.vhost_promises.proofs.scripts.passes_its_script.Goals as goal

pub returns-clause-cut : goal.returns-clause-cut
returns-clause-cut c = takes-cut

pub returns-clause-fault : goal.returns-clause-fault
returns-clause-fault c = no-fault
