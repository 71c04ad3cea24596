-- The reply for a request.
use Rattle.std.proofs.Common.{length, refl, sym, subst, ◌∙◌}
use Rattle.std.specs.Prelude.{◌&&◌, is_some}
use Rattle.vhost_message.specs.Header.{is_valid_header}
use Rattle.vhost_message.specs.MsgHeader.{fields_of, of_fields}
use Rattle.vhost_protocol.specs.ReplySplit.{reply_split}
use Rattle.vhost_connection.specs.State.{state}
use Rattle.vhost_connection.specs.Talk.{State}
use Rattle.vhost_connection.specs.Asking.{is_known_by, Missing}
use Rattle.vhost_connection.proofs.Replies.{known-is, reply-comes, reply-unfit, reply-fails}
use Rattle.vhost_connection.proofs.endpoint.asks.Endpoint+VhostUserMsgHeader+R+L.recv_record.Goals as goal

pub returns-then-not-is_reply_for : goal.returns-then-not-is_reply_for
returns-then-not-is_reply_for g c =
    reply-unfit g.L.Link.event (is_known_by g.R.Req.code) g.R.Req.code fields_of of_fields (λ h. refl) (λ h. is_some (g.R.Req.code (fields_of h).code) && is_valid_header (fields_of h)) (λ h. known-is g.R.Req.code (fields_of h))
    g.T.ByteValued.SIZE g.T.ByteValued.read g.T.VhostUserMsgValidator.valid (state c.args.self.now) (state c.recv_payload_into_buf.new.self) (fields_of c.args.request.now) _ _ _ _ _ _ (c.in-Ok.ensures.received c.requires)
    (sym c.is_reply_for.ensures ∙ c.if-not-is_reply_for.true)

pub returns-else-not-is_reply_for : goal.returns-else-not-is_reply_for
returns-else-not-is_reply_for g c =
    reply-comes g.L.Link.event (is_known_by g.R.Req.code) g.R.Req.code fields_of of_fields (λ h. refl) (λ h. is_some (g.R.Req.code (fields_of h).code) && is_valid_header (fields_of h)) (λ h. known-is g.R.Req.code (fields_of h))
    g.T.ByteValued.SIZE g.T.ByteValued.read g.T.VhostUserMsgValidator.valid (state c.args.self.now) (state c.recv_payload_into_buf.new.self) (fields_of c.args.request.now) _ _ _ _ _ _ _ (c.in-Ok.ensures.received c.requires)
    (sym c.is_reply_for.ensures ∙ c.if-not-is_reply_for.false) c.get_size.ensures

pub returns-in-Err : goal.returns-in-Err
returns-in-Err g c =
    subst (λ (x : State _ _). Missing g.L.Link.event g.R.Req.code (reply_split (is_known_by g.R.Req.code) g.T.ByteValued.SIZE (λ bs. g.T.VhostUserMsgValidator.valid (g.T.ByteValued.read bs)) (length c.args.room.now)) (state c.args.self.now) (fields_of c.args.request.now) c.in-Err.error x) (sym c.break_on_fault.ensures)
    (reply-fails g.L.Link.event (is_known_by g.R.Req.code) g.R.Req.code (fields_of {R = g.row.R.Denot}) of_fields (λ h. refl) (λ h. is_some (g.R.Req.code (fields_of h).code) && is_valid_header (fields_of h)) (λ h. known-is g.R.Req.code (fields_of h))
    g.T.ByteValued.SIZE g.T.ByteValued.read g.T.VhostUserMsgValidator.valid (state c.args.self.now) (state c.recv_payload_into_buf.new.self) (fields_of c.args.request.now) _ _ c.in-Err.error (c.in-Err.ensures.received c.requires))
