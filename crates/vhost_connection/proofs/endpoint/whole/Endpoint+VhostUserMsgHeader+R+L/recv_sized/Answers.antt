use Rattle.std.proofs.Common.{[], ◌+◌, length, refl, sym, ap, subst, ◌∙◌}
use Rattle.vhost_message.specs.MsgHeader.{fields_of}
use Rattle.vhost_protocol.specs.ReplySplit.{has_size, sized_split, whole_split}
use Rattle.vhost_connection.specs.Asking.{is_known_by, Missing}
use Rattle.vhost_connection.specs.State.{state}
use Rattle.vhost_connection.specs.Talk.{State}
use Rattle.vhost_connection.specs.Whole.{ReadsNone}
use Rattle.vhost_connection.proofs.Sized.{bad-record, sized-unfit, sized-comes, sized-missing}
use Rattle.vhost_connection.proofs.endpoint.whole.Endpoint+VhostUserMsgHeader+R+L.recv_sized.Goals as goal
use Rattle.vhost_connection.proofs.endpoint.whole.Endpoint+VhostUserMsgHeader+R+L.recv_sized.Goals.{then-not-is_valid-via-then-not-is_valid, then-not-is_valid-via-else-not-is_valid+then-not-is_reply_for}

pub returns-then-not-is_valid : goal.returns-then-not-is_valid
returns-then-not-is_valid g c =
    elim c.then-not-is_valid.branch [
      | then-not-is_valid-via-then-not-is_valid w ↦
          bad-record g.L.Link.event g.R.Req.code (has_size (is_known_by g.R.Req.code) (c.SIZE.result + length c.args.room.now)) (state c.args.self.now) (state c.recv_whole.new.self) c.in-Ok.header c.in-Ok.front.list.items c.recv_whole.new.self.text.value c.in-Ok.ensures.1 c.in-Ok.ensures.2
          g.T.ByteValued.SIZE g.T.ByteValued.read g.T.VhostUserMsgValidator.valid (fields_of c.args.request.now) c.args.room.now [] (state c.put_back.new.self)
          (ap (λ n. has_size (is_known_by g.R.Req.code) (n + length c.args.room.now)) c.SIZE.ensures) c.decode-body.result (rw (c.deref.ensures, c.SIZE-in-Ok.ensures) at c.decode-body.ensures.read)
          (sym c.is_valid.ensures ∙ w.if-not-is_valid.true) c.put_back.ensures.state
      | then-not-is_valid-via-else-not-is_valid+then-not-is_reply_for w ↦
          sized-unfit g.L.Link.event g.R.Req.code (has_size (is_known_by g.R.Req.code) (c.SIZE.result + length c.args.room.now)) (state c.args.self.now) (state c.recv_whole.new.self) c.in-Ok.header c.in-Ok.front.list.items c.recv_whole.new.self.text.value c.in-Ok.ensures.1 c.in-Ok.ensures.2
          g.T.ByteValued.SIZE g.T.ByteValued.read g.T.VhostUserMsgValidator.valid (fields_of c.args.request.now) c.args.room.now [] (state c.put_back.new.self)
          (ap (λ n. has_size (is_known_by g.R.Req.code) (n + length c.args.room.now)) c.SIZE.ensures) c.decode-body.result (rw (c.deref.ensures, c.SIZE-in-Ok.ensures) at c.decode-body.ensures.read)
          (sym c.is_valid.ensures ∙ w.if-not-is_valid.false) (sym w.is_reply_for.ensures ∙ w.if-not-is_reply_for.true) c.put_back.ensures.state
    ]

pub returns-else-not-is_reply_for : goal.returns-else-not-is_reply_for
returns-else-not-is_reply_for g c =
    sized-comes g.L.Link.event g.R.Req.code (has_size (is_known_by g.R.Req.code) (c.SIZE.result + length c.args.room.now)) (state c.args.self.now) (state c.recv_whole.new.self) c.in-Ok.header c.in-Ok.front.list.items c.recv_whole.new.self.text.value c.in-Ok.ensures.1 c.in-Ok.ensures.2
    g.T.ByteValued.SIZE g.T.ByteValued.read g.T.VhostUserMsgValidator.valid (fields_of c.args.request.now) c.args.room.now c.copy_from_slice.new.self (state c.give.new.self)
    (ap (λ n. has_size (is_known_by g.R.Req.code) (n + length c.args.room.now)) c.SIZE.ensures) c.decode-body.result (rw (c.deref.ensures, c.SIZE-in-Ok.ensures) at c.decode-body.ensures.read)
    c.get_size.result c.in-Ok.front.list.items c.give.result (sym c.is_valid.ensures ∙ c.if-not-is_valid.false) (sym c.is_reply_for.ensures ∙ c.if-not-is_reply_for.false) c.get_size.ensures refl c.give.ensures.state c.give.ensures.given
    (rw (c.deref-in-Ok.ensures, c.get_size-size.ensures, c.SIZE-in-Ok-2.ensures) at c.copy_from_slice.ensures.after)

pub returns-in-Err : goal.returns-in-Err
returns-in-Err g c =
    subst (λ (x : State _ _). Missing g.L.Link.event g.R.Req.code (sized_split (is_known_by g.R.Req.code) g.T.ByteValued.SIZE (λ bs. g.T.VhostUserMsgValidator.valid (g.T.ByteValued.read bs)) (length c.args.room.now)) (state c.args.self.now) (fields_of c.args.request.now) c.in-Err.error x) (sym c.break_on_fault.ensures)
    (sized-missing g.T.ByteValued.SIZE (λ bs. g.T.VhostUserMsgValidator.valid (g.T.ByteValued.read bs)) (length c.args.room.now) c.in-Err.error (state c.recv_whole.new.self)
    (subst (λ n. ReadsNone g.L.Link.event (whole_split (has_size (is_known_by g.R.Req.code) (n + length c.args.room.now))) (state c.args.self.now) c.in-Err.error (state c.recv_whole.new.self)) c.SIZE.ensures c.in-Err.ensures))
