use Rattle.std.proofs.Common.{sym, ◌∙◌}
use Rattle.vhost_message.specs.MsgHeader.{fields_of}
use Rattle.vhost_connection.specs.State.{state}
use Rattle.vhost_connection.proofs.Bodies.{bad-left, bad-right}
use Rattle.vhost_connection.proofs.Bare.{front-fails, ended-bare, bare-comes, whole-comes, bad-comes, rest-fails}
use Rattle.vhost_connection.proofs.Errors.{passed-on}
use Rattle.vhost_connection.proofs.endpoint.bare.Endpoint+VhostUserMsgHeader+R+L.recv_payload_or_bare.Goals as goal
use Rattle.vhost_connection.proofs.endpoint.bare.Endpoint+VhostUserMsgHeader+R+L.recv_payload_or_bare.Goals.{then-not-is_valid-via-then-not-is_valid, then-not-is_valid-via-else-not-is_valid+then-not-is_valid-2}

pub returns-in_err-count : goal.returns-in_err-count
returns-in_err-count g c =
    rw (passed-on c.from_residual.result c.from_residual.ensures.1) (front-fails g.L.Link.event g.R.Req.code (fields_of c.args.request.now) (state c.args.self.now) c.args.buf.now (state c.recv_front.new.self) _ c.in_err-count.ensures)

pub returns-then-count : goal.returns-then-count
returns-then-count g c =
    ended-bare g.L.Link.event g.R.Req.code (fields_of c.args.request.now) (state c.args.self.now) (state c.recv_front.new.self) c.in_ok-count.ensures.1.0 c.in_ok-count.ensures.1.1 c.args.buf.now (state c.put_back.new.self) c.if-count.true c.put_back.ensures.state

pub returns-then-is_bare : goal.returns-then-is_bare
returns-then-is_bare g c =
    bare-comes g.L.Link.event g.R.Req.code (fields_of c.args.request.now) (state c.args.self.now) (state c.recv_front.new.self) c.in_ok-count.ensures.1.0 c.in_ok-count.ensures.1.1 c.if-count.false c.decode-header.result c.decode-part.result
    (rw c.deref.ensures at c.decode-header.ensures.read) (rw c.deref-2.ensures at c.decode-part.ensures.read) c.deref-3.result.now c.deref-3.ensures.value c.args.buf.now (state c.put_back-then-is_bare.new.self) (sym c.is_bare.ensures ∙ c.if-is_bare.true) c.put_back-then-is_bare.ensures.state

pub returns-then-not-is_valid : goal.returns-then-not-is_valid
returns-then-not-is_valid g c =
    bad-comes g.L.Link.event g.R.Req.code (fields_of c.args.request.now) (state c.args.self.now) (state c.recv_front.new.self) c.in_ok-count.ensures.1.0 c.in_ok-count.ensures.1.1 c.if-count.false c.decode-header.result c.decode-part.result
    (rw c.deref.ensures at c.decode-header.ensures.read) (rw c.deref-2.ensures at c.decode-part.ensures.read) c.deref-3.result.now c.deref-3.ensures.value c.args.buf.now c.recv_more.new.room (state c.recv_more.new.self) (state c.put_back-then-not-is_valid.new.self) c.in-Ok.more
    (sym c.is_bare.ensures ∙ c.if-is_bare.false) c.in-Ok.ensures
    (elim c.then-not-is_valid.branch [
      | then-not-is_valid-via-then-not-is_valid w ↦ bad-left _ _ (sym c.is_valid.ensures ∙ w.if-not-is_valid.true)
      | then-not-is_valid-via-else-not-is_valid+then-not-is_valid-2 w ↦ bad-right _ _ (sym w.is_valid-else-not-is_valid.ensures ∙ w.if-not-is_valid-2.true)
    ])
    c.put_back-then-not-is_valid.ensures.state

pub returns-else-not-is_valid-2 : goal.returns-else-not-is_valid-2
returns-else-not-is_valid-2 g c =
    whole-comes g.L.Link.event g.R.Req.code (fields_of c.args.request.now) (state c.args.self.now) (state c.recv_front.new.self) c.in_ok-count.ensures.1.0 c.in_ok-count.ensures.1.1 c.if-count.false c.decode-header.result c.decode-part.result
    (rw c.deref.ensures at c.decode-header.ensures.read) (rw c.deref-2.ensures at c.decode-part.ensures.read) c.deref-3.result.now c.deref-3.ensures.value c.args.buf.now c.recv_more.new.room (state c.recv_more.new.self) (state c.give.new.self) c.in-Ok.more c.give.result
    (sym c.is_bare.ensures ∙ c.if-is_bare.false) c.in-Ok.ensures (sym c.is_valid.ensures ∙ c.if-not-is_valid.false) (sym c.is_valid-else-not-is_valid.ensures ∙ c.if-not-is_valid-2.false) c.give.ensures.given c.give.ensures.state

pub returns-in-Err : goal.returns-in-Err
returns-in-Err g c =
    rest-fails g.L.Link.event g.R.Req.code (fields_of c.args.request.now) (state c.args.self.now) (state c.recv_front.new.self) c.in_ok-count.ensures.1.0 c.in_ok-count.ensures.1.1 c.if-count.false c.decode-header.result c.decode-part.result
    (rw c.deref.ensures at c.decode-header.ensures.read) (rw c.deref-2.ensures at c.decode-part.ensures.read) c.deref-3.result.now c.deref-3.ensures.value c.args.buf.now c.recv_more.new.room (state c.recv_more.new.self) (state c.put_back-in-Err.new.self) c.in-Err.error
    (sym c.is_bare.ensures ∙ c.if-is_bare.false) c.in-Err.ensures c.put_back-in-Err.ensures.state
