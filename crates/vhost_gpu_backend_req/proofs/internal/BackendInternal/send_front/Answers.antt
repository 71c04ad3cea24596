-- All of a message but its pixels is sent, where it may be.
use Rattle.std.proofs.Common.{ℕ, ◌+◌, length, map, Ok, Err, sym, ap, ◌∙◌, arith}
use Rattle.vhost_gpu_message.specs.GpuBackendReq.{gpu_request_number}
use Rattle.vhost_connection.specs.State.{state}
use Rattle.vhost_connection.proofs.Errors.{passed-on}
use Rattle.vhost_gpu_backend_req.specs.Channel.{Channel}
use Rattle.vhost_gpu_backend_req.specs.Halves.{stopped}
use Rattle.vhost_gpu_backend_req.proofs.Answered.{front-sends, front-not-sent, head-with, row}
use Rattle.vhost_gpu_backend_req.proofs.internal.BackendInternal.send_front.Goals as goal

pub returns-in_err-header : goal.returns-in_err-header
returns-in_err-header g c payload awaited behind long =
    rw (passed-on c.from_residual.result c.from_residual.ensures.1)
    (front-not-sent g.L.Link.event c.args.place.now (row c.args.code (g.T.ByteValued.text c.args.body.now) payload (map (λ h. h.now) c.args.handles.now) awaited) _ _ _ _
    (ap (λ (n : ℕ). n + c.args.behind) (c.SIZE.ensures ∙ sym long) ∙ ap (λ (n : ℕ). length (g.T.ByteValued.text c.args.body.now) + n) (sym behind)) c.in_err-header.ensures)

pub returns-in-Ok : goal.returns-in-Ok
returns-in-Ok g c payload awaited behind long =
    let ready = c.in_ok-header.ensures in
    let sized = ap (λ (n : ℕ). n + c.args.behind) (c.SIZE.ensures ∙ sym long) ∙ ap (λ (n : ℕ). length (g.T.ByteValued.text c.args.body.now) + n) (sym behind) in
    let head = ready.is ∙ ap (head-with (gpu_request_number c.args.code)) sized in (
      head,
      record {
        alive = ready.alive;
        fits = omega (arith, ready.fits, sized);
        sends = front-sends g.L.Link.event (row c.args.code (g.T.ByteValued.text c.args.body.now) payload (map (λ h. h.now) c.args.handles.now) awaited) (state c.args.self.now.endpoint) (state c.prepare.new.self.endpoint) (state c.send_message.new.self) _ (Ok tt)
            (ap (λ (x : Channel _ _). x.endpoint) ready.listed) head (c.in-Ok.ensures.sent c.requires.size c.requires.handles);
      },
      ap (λ (x : Channel _ _). record x { endpoint = state c.send_message.new.self }) ready.listed,
    )

pub returns-in-Err : goal.returns-in-Err
returns-in-Err g c payload awaited behind long =
    let ready = c.in_ok-header.ensures in
    let sized = ap (λ (n : ℕ). n + c.args.behind) (c.SIZE.ensures ∙ sym long) ∙ ap (λ (n : ℕ). length (g.T.ByteValued.text c.args.body.now) + n) (sym behind) in
    rw c.io_err_convert.ensures
    (stopped ready.alive (omega (arith, ready.fits, sized))
    (front-sends g.L.Link.event (row c.args.code (g.T.ByteValued.text c.args.body.now) payload (map (λ h. h.now) c.args.handles.now) awaited) (state c.args.self.now.endpoint) (state c.prepare.new.self.endpoint) (state c.send_message.new.self) _ (Err c.in-Err.error)
    (ap (λ (x : Channel _ _). x.endpoint) ready.listed) (ready.is ∙ ap (head-with (gpu_request_number c.args.code)) sized) (c.in-Err.ensures.sent c.requires.size c.requires.handles))
    (ap (λ (x : Channel _ _). record x { endpoint = state c.send_message.new.self }) ready.listed))
