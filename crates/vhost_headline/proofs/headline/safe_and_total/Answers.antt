-- One call, whatever comes.
use Rattle.vhost_headline.proofs.OneCall.{safe-and-total}
use Rattle.vhost_headline.proofs.headline.safe_and_total.Goals as goal
use Rattle.vhost_device.specs.Reached.{by_trait}

pub returns : goal.returns
returns g c =
    safe-and-total g.L.Link.event g.L.Link.opens g.L.Handle.Handle.kinds (by_trait g.D.VhostUserBackendReqHandlerMut.gives) c.args.core.now c.args.device.now c.handle_request.new.self c.handle_request.new.device c.handle_request.result
    c.handle_request.ensures.failed c.handle_request.ensures.handled
