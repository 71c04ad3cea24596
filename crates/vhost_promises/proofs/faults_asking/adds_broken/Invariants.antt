-- So many calls were answered.
use Rattle.vhost_backend_req.specs.Channel.{channel}
use Rattle.vhost_promises.proofs.FaultingAsked.{AddsBroken}
use Rattle.vhost_promises.proofs.faults_asking.adds_broken.Given as goal

abbrev pub invariant-calls : goal.invariant-calls
invariant-calls g l = record { stays : AddsBroken g.L.Link.event (channel l.fn.frontend) l.counter l.answers.items (channel l.frontend) }
