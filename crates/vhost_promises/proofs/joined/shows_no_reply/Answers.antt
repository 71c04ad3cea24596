-- Nothing comes back where nothing was read.
use Rattle.vhost_frontend_core.specs.Values.{call_of}
use Rattle.vhost_promises.proofs.Whatever.{step-shows-nothing}
use Rattle.vhost_promises.proofs.joined.shows_no_reply.Goals as goal
use Rattle.vhost_device.specs.Reached.{by_trait}

pub returns : goal.returns
returns g c fails none = step-shows-nothing (by_trait g.D.VhostUserBackendReqHandlerMut.gives) c.args.joined.now c.step.new.self (call_of c.args.call.now) fails none c.step.result c.step.ensures.step
