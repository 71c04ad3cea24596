-- A call by its result.
use Rattle.vhost_protocol.specs.Reverse.{ShmemMap}
use Rattle.vhost_backend_req.specs.Channel.{channel}
use Rattle.vhost_promises.proofs.FrontendAnswers.{answers-call}
use Rattle.vhost_promises.proofs.asks.maps_memory.Goals as goal

pub returns : goal.returns
returns g c = answers-call g.L.Link.event (ShmemMap c.args.mapping.now c.args.handle.now) (channel c.args.frontend.now) _ _ c.shmem_map.ensures
