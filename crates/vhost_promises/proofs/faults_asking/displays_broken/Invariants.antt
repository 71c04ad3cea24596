-- So many calls were answered.
use Rattle.vhost_gpu_backend_req.specs.Channel.{channel}
use Rattle.vhost_message.specs.Records.{u64_at}
use Rattle.vhost_promises.proofs.FaultingAsked.{DisplaysBroken}
use Rattle.vhost_promises.proofs.faults_asking.displays_broken.Given as goal

abbrev pub invariant-calls : goal.invariant-calls
invariant-calls g l = record { stays : DisplaysBroken g.L.Link.event (λ bs. record { value = u64_at 0 bs }) (channel l.fn.display) l.counter l.answers.items (channel l.display) }
