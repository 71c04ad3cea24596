use Rattle.vhost_dummy_backend.proofs.Handed.{handed}
use Rattle.vhost_dummy_backend.proofs.handler.DummyBackendReqHandlerVhostUserBackendReqHandlerMut.postcopy_advice.Goals as goal

pub returns : goal.returns
returns g c = (c.take.ensures.last, handed c.args.self.now c.take.result _ c.take.ensures.left)
