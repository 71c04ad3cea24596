-- A request for a channel.
use Rattle.vhost_backend_req_handler.specs.Core.{endpoint_of, session_in}
use Rattle.vhost_promises.proofs.OwnChannel.{opens-own}
use Rattle.vhost_promises.proofs.opening.opens_its_own.Goals as goal
use Rattle.vhost_device.specs.Reached.{by_trait}

pub returns : goal.returns
returns g c alive =
    opens-own g.L.Link.event g.L.Link.opens g.L.Handle.Handle.kinds (by_trait g.D.VhostUserBackendReqHandlerMut.gives) (endpoint_of c.args.core.now) _ (session_in c.args.core.now) _ c.args.device.now _ c.handle_request.result (c.handle_request.ensures.handled alive)
