-- A call by its result.
use Rattle.vhost_message.specs.Records.{u64_at}
use Rattle.vhost_protocol.specs.Gpu.{GetProtocolFeatures}
use Rattle.vhost_gpu_backend_req.specs.Channel.{channel}
use Rattle.vhost_promises.proofs.DisplayAnswers.{answers-call}
use Rattle.vhost_promises.proofs.asks.asks_features.Goals as goal

pub returns : goal.returns
returns g c = answers-call g.L.Link.event (λ bs. record { value = u64_at 0 bs }) GetProtocolFeatures (channel c.args.display.now) _ _ c.get_protocol_features.ensures
