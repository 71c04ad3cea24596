-- A call by its result.
use Rattle.vhost_protocol.specs.Reverse.{SharedObjectAdd}
use Rattle.vhost_backend_req.specs.Channel.{channel}
use Rattle.vhost_promises.proofs.FrontendAnswers.{answers-call}
use Rattle.vhost_promises.proofs.asks.adds_object.Goals as goal

pub returns : goal.returns
returns g c = answers-call g.L.Link.event (SharedObjectAdd c.args.name.now) (channel c.args.frontend.now) _ _ c.shared_object_add.ensures
