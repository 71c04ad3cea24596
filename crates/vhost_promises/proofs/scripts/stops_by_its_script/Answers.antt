use Rattle.vhost_promises.proofs.ByScript.{by-cut, counts-wants}
use Rattle.vhost_promises.proofs.scripts.stops_by_its_script.Goals as goal

pub returns-clause-cause : goal.returns-clause-cause
returns-clause-cause c = by-cut

pub returns-clause-wants : goal.returns-clause-wants
returns-clause-wants c = counts-wants
