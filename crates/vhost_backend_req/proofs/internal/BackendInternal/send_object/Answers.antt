-- A call about a shared object, where those were agreed on.
use Rattle.std.proofs.Common.{refl, map}
use Rattle.vhost_protocol.specs.Written.{ObjectName}
use Rattle.vhost_backend_req.specs.Halves.AsksHalf.{refuses}
use Rattle.vhost_backend_req.specs.Channel.{channel, backend_of}
use Rattle.vhost_backend_req.proofs.Answered.{agreed, asks-unless}
use Rattle.vhost_backend_req.proofs.internal.BackendInternal.send_object.Goals as goal

pub returns-then-not-self : goal.returns-then-not-self
returns-then-not-self g c = (refuses (rw c.if-not-self.true refl), refl)

pub returns : goal.returns
returns g c =
    agreed _ _ c.if-not-self.false (asks-unless c.args.self.now.failed (backend_of (channel c.args.self.now)) c.args.code (ObjectName c.args.name.now) (map (λ h. h.now) c.args.handles.now) c.send.ensures.marked (λ alive. c.send.ensures.sent alive (ObjectName c.args.name.now) refl))
