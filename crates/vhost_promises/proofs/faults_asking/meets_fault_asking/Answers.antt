-- A fault of a frontend's request or of its reply.
use Rattle.vhost_promises.proofs.FaultingRead.{met-fault}
use Rattle.vhost_promises.proofs.faults_asking.meets_fault_asking.Goals as goal

pub returns : goal.returns
returns g c met = met-fault g.L.Link.event c.args.frontend.now.inner c.number.result c.number.new.self.inner c.number.ensures met
