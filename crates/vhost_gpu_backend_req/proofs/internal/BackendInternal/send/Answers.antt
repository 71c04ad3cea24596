-- A message is sent, where it may be.
use Rattle.std.proofs.Common.{ℕ, ◌+◌, length, map, Ok, Err, sym, ap, ◌∙◌, arith}
use Rattle.vhost_gpu_message.specs.GpuBackendReq.{gpu_request_number}
use Rattle.vhost_connection.specs.State.{state}
use Rattle.vhost_connection.proofs.Errors.{passed-on}
use Rattle.vhost_gpu_backend_req.specs.Channel.{Channel}
use Rattle.vhost_gpu_backend_req.specs.Asking.Unsent.{stopped}
use Rattle.vhost_gpu_backend_req.proofs.Answered.{row-sends, not-sent, head-with, row}
use Rattle.vhost_gpu_backend_req.proofs.internal.BackendInternal.send.Goals as goal

pub returns-in_err-header : goal.returns-in_err-header
returns-in_err-header g c awaited long =
    rw (passed-on c.from_residual.result c.from_residual.ensures.1)
    (not-sent g.L.Link.event c.args.place.now (row c.args.code (g.T.ByteValued.text c.args.body.now) c.args.payload.now (map (λ h. h.now) c.args.handles.now) awaited) _ _ _ _
    (ap (λ (n : ℕ). n + length c.args.payload.now) (c.SIZE.ensures ∙ sym long)) c.in_err-header.ensures)

pub returns-in-Ok : goal.returns-in-Ok
returns-in-Ok g c awaited long =
    let ready = c.in_ok-header.ensures in
    let head = ready.is ∙ ap (head-with (gpu_request_number c.args.code)) (ap (λ (n : ℕ). n + length c.args.payload.now) (c.SIZE.ensures ∙ sym long)) in (
      head,
      record {
        alive = ready.alive;
        fits = omega (arith, ready.fits, long, c.SIZE.ensures);
        sends = row-sends g.L.Link.event (row c.args.code (g.T.ByteValued.text c.args.body.now) c.args.payload.now (map (λ h. h.now) c.args.handles.now) awaited) (state c.args.self.now.endpoint) (state c.prepare.new.self.endpoint) (state c.send_message_with_payload.new.self) _ (Ok tt)
            (ap (λ (x : Channel _ _). x.endpoint) ready.listed) head (c.in-Ok.ensures.sent c.requires.size (omega (arith, ready.fits, c.SIZE.ensures)) c.requires.handles);
      },
      ap (λ (x : Channel _ _). record x { endpoint = state c.send_message_with_payload.new.self }) ready.listed,
    )

pub returns-in-Err : goal.returns-in-Err
returns-in-Err g c awaited long =
    let ready = c.in_ok-header.ensures in
    let head = ready.is ∙ ap (head-with (gpu_request_number c.args.code)) (ap (λ (n : ℕ). n + length c.args.payload.now) (c.SIZE.ensures ∙ sym long)) in
    rw c.io_err_convert.ensures
    (stopped ready.alive (omega (arith, ready.fits, long, c.SIZE.ensures))
    (row-sends g.L.Link.event (row c.args.code (g.T.ByteValued.text c.args.body.now) c.args.payload.now (map (λ h. h.now) c.args.handles.now) awaited) (state c.args.self.now.endpoint) (state c.prepare.new.self.endpoint) (state c.send_message_with_payload.new.self) _ (Err c.in-Err.error)
    (ap (λ (x : Channel _ _). x.endpoint) ready.listed) head (c.in-Err.ensures.sent c.requires.size (omega (arith, ready.fits, c.SIZE.ensures)) c.requires.handles))
    (ap (λ (x : Channel _ _). record x { endpoint = state c.send_message_with_payload.new.self }) ready.listed))
