use Rattle.std.proofs.Common.{length, refl, sym, ◌∙◌}
use Rattle.vhost_message.specs.MsgHeader.{fields_of}
use Rattle.vhost_protocol.specs.ReplySplit.{has_config_size}
use Rattle.vhost_connection.specs.Asking.{is_known_by}
use Rattle.vhost_connection.specs.State.{state}
use Rattle.vhost_connection.proofs.Bodies.{bad-left, bad-right}
use Rattle.vhost_connection.proofs.Errors.{passed-on}
use Rattle.vhost_connection.proofs.Sized.{config-none, config-refused, config-comes, config-missing, both-true}
use Rattle.vhost_connection.proofs.endpoint.whole.Endpoint+VhostUserMsgHeader+R+L.recv_sized_or_none.Goals as goal
use Rattle.vhost_connection.proofs.endpoint.whole.Endpoint+VhostUserMsgHeader+R+L.recv_sized_or_none.Goals.{then-not-is_sum-via-then-not-is_sum, then-not-is_sum-via-else-not-is_sum+then-not-is_valid}

pub returns-in_err-header : goal.returns-in_err-header
returns-in_err-header g c =
    rw (passed-on c.from_residual.result c.from_residual.ensures.1) (config-missing g.L.Link.event g.R.Req.code (state c.args.self.now) (fields_of c.args.request.now) c.args.buf.now c.args.buf.now _ (state c.recv_whole.new.self) c.in_err-header.ensures)

pub returns-then-is_empty : goal.returns-then-is_empty
returns-then-is_empty g c =
    config-none g.L.Link.event g.R.Req.code (has_config_size (is_known_by g.R.Req.code) (length c.args.buf.now)) (state c.args.self.now) (state c.recv_whole.new.self) c.in_ok-header.header c.in_ok-header.front.list.items c.recv_whole.new.self.text.value c.in_ok-header.ensures.1 c.in_ok-header.ensures.2
    (fields_of c.args.request.now) c.args.buf.now c.args.buf.now (state c.put_back.new.self) refl c.decode-part.result (rw c.deref.ensures at c.decode-part.ensures.read) c.deref-2.result.now c.deref-2.ensures.value (sym c.is_empty.ensures ∙ c.if-is_empty.true) c.put_back.ensures.state

pub returns-then-not-is_sum : goal.returns-then-not-is_sum
returns-then-not-is_sum g c =
    config-refused g.L.Link.event g.R.Req.code (has_config_size (is_known_by g.R.Req.code) (length c.args.buf.now)) (state c.args.self.now) (state c.recv_whole.new.self) c.in_ok-header.header c.in_ok-header.front.list.items c.recv_whole.new.self.text.value c.in_ok-header.ensures.1 c.in_ok-header.ensures.2
    (fields_of c.args.request.now) c.args.buf.now c.args.buf.now (state c.put_back-then-not-is_sum.new.self) refl c.decode-part.result (rw c.deref.ensures at c.decode-part.ensures.read) c.deref-2.result.now c.deref-2.ensures.value (sym c.is_empty.ensures ∙ c.if-is_empty.false)
    (elim c.then-not-is_sum.branch [
      | then-not-is_sum-via-then-not-is_sum w ↦ bad-left _ _ (rw c.get_size-size.ensures at (sym c.is_sum.ensures ∙ w.if-not-is_sum.true))
      | then-not-is_sum-via-else-not-is_sum+then-not-is_valid w ↦ bad-right _ _ (sym w.is_valid.ensures ∙ w.if-not-is_valid.true)
    ])
    c.put_back-then-not-is_sum.ensures.state

pub returns : goal.returns
returns g c =
    config-comes g.L.Link.event g.R.Req.code (has_config_size (is_known_by g.R.Req.code) (length c.args.buf.now)) (state c.args.self.now) (state c.recv_whole.new.self) c.in_ok-header.header c.in_ok-header.front.list.items c.recv_whole.new.self.text.value c.in_ok-header.ensures.1 c.in_ok-header.ensures.2
    (fields_of c.args.request.now) c.args.buf.now c.copy_from_slice.new.self (state c.give.new.self) refl c.decode-part.result (rw c.deref.ensures at c.decode-part.ensures.read) c.deref-2.result.now c.in_ok-header.front.list.items c.give.result
    c.deref-2.ensures.value refl (sym c.is_empty.ensures ∙ c.if-is_empty.false) (both-true _ _ (rw c.get_size-size.ensures at (sym c.is_sum.ensures ∙ c.if-not-is_sum.false)) (sym c.is_valid.ensures ∙ c.if-not-is_valid.false)) c.give.ensures.state c.give.ensures.given
    (rw (c.deref-3.ensures, c.get_size-size.ensures) at c.copy_from_slice.ensures.after)
