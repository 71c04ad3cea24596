-- A call by its result.
use Rattle.vhost_protocol.specs.Gpu.{MoveCursor}
use Rattle.vhost_gpu_backend_req.specs.Channel.{channel}
use Rattle.vhost_promises.proofs.DisplayAnswers.{answers-call}
use Rattle.vhost_promises.proofs.asks.moves_cursor.Goals as goal

pub returns : goal.returns
returns g c = answers-call g.L.Link.event (λ _. tt) (MoveCursor c.args.cursor.now) (channel c.args.display.now) _ _ c.cursor_pos.ensures
