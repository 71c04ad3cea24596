-- So many calls were answered.

use Rattle.vhost_promises.proofs.FaultingAsked.{ReadsBroken}
use Rattle.vhost_promises.proofs.faults_asking.asks_broken.Given as goal

abbrev pub invariant-calls : goal.invariant-calls
invariant-calls g l = record { stays : ReadsBroken g.L.Link.event l.fn.frontend.inner l.counter l.answers.items l.frontend.inner }
