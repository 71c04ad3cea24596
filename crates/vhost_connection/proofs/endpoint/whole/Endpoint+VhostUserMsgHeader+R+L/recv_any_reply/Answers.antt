use Rattle.std.proofs.Common.{refl, sym, subst, ◌∙◌}
use Rattle.vhost_message.specs.MsgHeader.{fields_of}
use Rattle.vhost_protocol.specs.ReplySplit.{whole_split}
use Rattle.vhost_connection.specs.Asking.{is_known_by, Missing}
use Rattle.vhost_connection.specs.State.{state}
use Rattle.vhost_connection.specs.Talk.{State}
use Rattle.vhost_connection.proofs.Sized.{any-comes, any-unfit, none-missing}
use Rattle.vhost_connection.proofs.endpoint.whole.Endpoint+VhostUserMsgHeader+R+L.recv_any_reply.Goals as goal

pub returns-then-not-is_reply_for : goal.returns-then-not-is_reply_for
returns-then-not-is_reply_for g c =
    any-unfit g.L.Link.event g.R.Req.code (is_known_by g.R.Req.code) (state c.args.self.now) (state c.recv_whole.new.self) c.in-Ok.header c.in-Ok.front.list.items c.recv_whole.new.self.text.value c.in-Ok.ensures.1 c.in-Ok.ensures.2
    (fields_of c.args.request.now) (state c.put_back.new.self) refl (sym c.is_reply_for.ensures ∙ c.if-not-is_reply_for.true) c.put_back.ensures.state

pub returns-else-not-is_reply_for : goal.returns-else-not-is_reply_for
returns-else-not-is_reply_for g c =
    any-comes g.L.Link.event g.R.Req.code (is_known_by g.R.Req.code) (state c.args.self.now) (state c.recv_whole.new.self) c.in-Ok.header c.in-Ok.front.list.items c.recv_whole.new.self.text.value c.in-Ok.ensures.1 c.in-Ok.ensures.2
    (fields_of c.args.request.now) (state c.give.new.self) c.in-Ok.front.list.items c.give.result refl (sym c.is_reply_for.ensures ∙ c.if-not-is_reply_for.false) refl c.give.ensures.state c.give.ensures.given

pub returns-in-Err : goal.returns-in-Err
returns-in-Err g c =
    subst (λ (x : State _ _). Missing g.L.Link.event g.R.Req.code (whole_split (is_known_by g.R.Req.code)) (state c.args.self.now) (fields_of c.args.request.now) c.in-Err.error x) (sym c.break_on_fault.ensures)
    (none-missing c.in-Err.error (state c.recv_whole.new.self) c.in-Err.ensures)
