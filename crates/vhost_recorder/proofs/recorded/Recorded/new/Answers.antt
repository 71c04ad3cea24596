use Rattle.std.proofs.Common.{ap}
use Rattle.vhost_recorder.proofs.Kept.{kept-fresh}
use Rattle.vhost_recorder.proofs.recorded.Recorded.new.Goals as goal
use Rattle.vhost_device.specs.Reached.{by_trait}

pub invariant_of-result : goal.invariant_of-result
invariant_of-result g c =
    rw c.new-in-Ok.ensures.items (kept-fresh (by_trait g.D.VhostUserBackendReqHandlerMut.gives) c.in-Ok.joined c.args.max_queue_num (ap (λ v. v.frontend) c.in-Ok.ensures.fresh) (ap (λ v. v.session) c.in-Ok.ensures.fresh) c.in-Ok.ensures.ready)
