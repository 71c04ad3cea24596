-- A message goes out, and the answer is taken.
use Rattle.std.proofs.Common.{ap, subst, ◌∙◌}
use Rattle.std.specs.Prelude.{Some}
use Rattle.vhost_message.specs.Header.{Header}
use Rattle.vhost_connection.specs.State.{state}
use Rattle.vhost_protocol.specs.Gpu.{gpu_take}
use Rattle.vhost_protocol.specs.IoError.{seen_io_result}
use Rattle.vhost_gpu_backend_req.specs.Asking.{RecvsRecord}
use Rattle.vhost_gpu_backend_req.specs.Asking.Asks.{unsent, asked_for}
use Rattle.vhost_gpu_backend_req.specs.Channel.{channel, Channel}
use Rattle.vhost_gpu_backend_req.proofs.internal.BackendInternal.ask.Goals as goal

pub returns-in-Ok : goal.returns-in-Ok
returns-in-Ok g c shape sized all long =
    let s = c.in-Ok.ensures (Some shape) long in
    asked_for s.1
    (subst (λ (h : Header). RecvsRecord g.L.Link.event g.A.ByteValued.read (gpu_take (Some shape) h) (state c.send.new.self.endpoint) (seen_io_result c.recv_record.result) (state c.recv_record.new.self.endpoint)) s.0 (c.recv_record.ensures.received shape sized all))
    (ap channel c.recv_record.ensures.same ∙ ap (λ (x : Channel _ _). record x { endpoint = state c.recv_record.new.self.endpoint }) s.2)

pub returns-in-Err : goal.returns-in-Err
returns-in-Err g c shape sized all long = unsent (c.in-Err.ensures (Some shape) long)
