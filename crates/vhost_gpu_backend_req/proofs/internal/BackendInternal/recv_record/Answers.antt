-- The reply for a request.
use Rattle.std.proofs.Common.{◌≡◌, false, sym, ◌∙◌, refl}
use Rattle.std.specs.Prelude.{◌&&◌, not, is_some}
use Rattle.vhost_message.specs.Header.{is_reply_for}
use Rattle.vhost_gpu_message.specs.GpuBackendReq.{gpu_request_of}
use Rattle.vhost_connection.specs.State.{state}
use Rattle.vhost_gpu_message.specs.GpuHeader.{gpu_fields_of}
use Rattle.vhost_gpu_backend_req.proofs.Answered.{record-comes, record-fails}
use Rattle.vhost_gpu_backend_req.proofs.internal.BackendInternal.recv_record.Goals as goal
use Rattle.vhost_gpu_backend_req.proofs.internal.BackendInternal.recv_record.Goals.{then-not-is_reply_for-via-then-not-is_reply_for, then-not-is_reply_for-via-else-not-is_reply_for+then-is_some}

pub returns-then-not-is_reply_for-clause-received :
    goal.returns-then-not-is_reply_for-clause-received
returns-then-not-is_reply_for-clause-received g c shape sized all =
    let bad : (is_reply_for gpu_request_of (gpu_fields_of c.in-Ok.header) (gpu_fields_of c.args.request.now) && not (is_some c.in-Ok.handles)) ≡ false = elim c.then-not-is_reply_for.branch [
      | then-not-is_reply_for-via-then-not-is_reply_for w ↦ rw (sym c.is_reply_for.ensures ∙ w.if-not-is_reply_for.true) refl
      | then-not-is_reply_for-via-else-not-is_reply_for+then-is_some w ↦ rw (sym c.is_reply_for.ensures ∙ w.if-not-is_reply_for.false, sym w.is_some.ensures ∙ w.if-is_some.true) refl
    ] in
    record-comes g.L.Link.event g.T.ByteValued.SIZE g.T.ByteValued.read g.T.VhostUserMsgValidator.valid shape sized all (state c.args.self.now.endpoint) (state c.recv_payload_into_buf.new.self) (gpu_fields_of c.args.request.now) _
    c.in-Ok.header c.in-Ok.body _ c.in-Ok.handles (c.in-Ok.ensures.received c.requires) (rw (c.io_err_convert.ensures, bad) refl)

pub returns-else-is_some-clause-received : goal.returns-else-is_some-clause-received
returns-else-is_some-clause-received g c shape sized all =
    record-comes g.L.Link.event g.T.ByteValued.SIZE g.T.ByteValued.read g.T.VhostUserMsgValidator.valid shape sized all (state c.args.self.now.endpoint) (state c.recv_payload_into_buf.new.self) (gpu_fields_of c.args.request.now) _
    c.in-Ok.header c.in-Ok.body _ c.in-Ok.handles (c.in-Ok.ensures.received c.requires) (rw (sym c.is_reply_for.ensures ∙ c.if-not-is_reply_for.false, sym c.is_some.ensures ∙ c.if-is_some.false) refl)

pub returns-in-Err-clause-received : goal.returns-in-Err-clause-received
returns-in-Err-clause-received g c shape sized all =
    rw (c.io_err_convert-in-Err.ensures, c.break_on_fault.ensures)
    (record-fails g.L.Link.event g.T.ByteValued.SIZE g.T.ByteValued.read g.T.VhostUserMsgValidator.valid shape sized all (state c.args.self.now.endpoint) (state c.recv_payload_into_buf.new.self) (gpu_fields_of c.args.request.now) _
    c.in-Err.error (c.in-Err.ensures.received c.requires))
