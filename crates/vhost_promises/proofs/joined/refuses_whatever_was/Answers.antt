-- A refusal, whatever was before.
use Rattle.vhost_frontend_core.specs.Values.{call_of}
use Rattle.vhost_promises.proofs.Whatever.{step-refuses}
use Rattle.vhost_promises.proofs.joined.refuses_whatever_was.Goals as goal
use Rattle.vhost_device.specs.Reached.{by_trait}

pub returns : goal.returns
returns g c e is = step-refuses (by_trait g.D.VhostUserBackendReqHandlerMut.gives) c.args.joined.now c.step.new.self (call_of c.args.call.now) e c.step.result is c.step.ensures.step
