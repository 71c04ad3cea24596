-- 0 for success, else 1.
use Rattle.std.proofs.Common.{refl, if◌then◌else◌}
use Rattle.vhost_protocol.specs.Written.{U64}
use Rattle.vhost_backend_req_handler.proofs.telling.send_ack_message.Goals as goal

pub returns : goal.returns
returns g c ready = c.reply.ensures (U64 (if c.args.agreed then 0 else 1)) (rw c.ack_body.ensures refl) ready
