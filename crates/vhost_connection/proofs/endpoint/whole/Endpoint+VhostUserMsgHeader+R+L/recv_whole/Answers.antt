use Rattle.std.proofs.Common.{refl, sym, ◌∙◌, arith}
use Rattle.vhost_connection.specs.Asking.{is_known_by}
use Rattle.vhost_connection.specs.State.{state}
use Rattle.vhost_connection.specs.Whole.{sized_by}
use Rattle.vhost_connection.proofs.Errors.{passed-on}
use Rattle.vhost_connection.proofs.Whole.{head-fails, head-ends, head-refused, body-ends, body-fails, body-comes}
use Rattle.vhost_connection.proofs.endpoint.whole.Endpoint+VhostUserMsgHeader+R+L.recv_whole.Goals as goal

pub returns-in_err-count : goal.returns-in_err-count
returns-in_err-count g c =
    rw (passed-on c.from_residual.result c.from_residual.ensures.1) (head-fails g.row.R.Denot g.L.Link.event (sized_by (is_known_by g.R.Req.code) c.args.sizes) (state c.args.self.now) (state c.recv_front.new.self) _ c.in_err-count.ensures)

pub returns-then-count-lt-MSG_HEADER_SIZE : goal.returns-then-count-lt-MSG_HEADER_SIZE
returns-then-count-lt-MSG_HEADER_SIZE g c =
    head-ends g.row.R.Denot g.L.Link.event (sized_by (is_known_by g.R.Req.code) c.args.sizes) (state c.args.self.now) (state c.recv_front.new.self) c.in_ok-count.ensures.1.0 c.in_ok-count.ensures.1.1 (state c.put_back.new.self) c.if-count-lt-MSG_HEADER_SIZE.true c.put_back.ensures.state

pub returns-then-not-is_awaited : goal.returns-then-not-is_awaited
returns-then-not-is_awaited g c =
    head-refused _ g.L.Link.event (sized_by (is_known_by g.R.Req.code) c.args.sizes) (state c.args.self.now) (state c.recv_front.new.self) c.in_ok-count.ensures.1.0 c.in_ok-count.ensures.1.1 c.if-count-lt-MSG_HEADER_SIZE.false c.decode-header.result (rw c.deref.ensures at c.decode-header.ensures.read)
    (state c.put_back-then-not-is_awaited.new.self) (sym c.is_awaited.ensures ∙ c.if-not-is_awaited.true) c.put_back-then-not-is_awaited.ensures.state

pub returns-then-more-size : goal.returns-then-more-size
returns-then-more-size g c =
    body-ends _ g.L.Link.event (sized_by (is_known_by g.R.Req.code) c.args.sizes) (state c.args.self.now) (state c.recv_front.new.self) c.in_ok-count.ensures.1.0 c.in_ok-count.ensures.1.1 c.if-count-lt-MSG_HEADER_SIZE.false c.decode-header.result (rw c.deref.ensures at c.decode-header.ensures.read)
    (sym c.is_awaited.ensures ∙ c.if-not-is_awaited.false) (state c.recv_behind.new.self) (state c.put_back-then-more-size.new.self) c.recv_behind.new.self.text.value c.in-Ok.more (rw c.get_size-size.ensures at c.in-Ok.ensures) (rw c.get_size-size.ensures at c.if-more-size.true) c.put_back-then-more-size.ensures.state

pub returns-else-more-size : goal.returns-else-more-size
returns-else-more-size g c =
    body-comes _ g.L.Link.event (sized_by (is_known_by g.R.Req.code) c.args.sizes) (state c.args.self.now) (state c.recv_front.new.self) c.in_ok-count.ensures.1.0 c.in_ok-count.ensures.1.1 c.if-count-lt-MSG_HEADER_SIZE.false c.decode-header.result (rw c.deref.ensures at c.decode-header.ensures.read)
    (sym c.is_awaited.ensures ∙ c.if-not-is_awaited.false) (state c.recv_behind.new.self) c.recv_behind.new.self.text.value c.in-Ok.more c.in_ok-count.field-0 (rw c.get_size-size.ensures at c.in-Ok.ensures)
    (λ few. let le = rw (sym c.get_size-size.ensures) at few in omega (arith, le, c.if-more-size.false)) refl

pub returns-in-Err : goal.returns-in-Err
returns-in-Err g c =
    body-fails _ g.L.Link.event (sized_by (is_known_by g.R.Req.code) c.args.sizes) (state c.args.self.now) (state c.recv_front.new.self) c.in_ok-count.ensures.1.0 c.in_ok-count.ensures.1.1 c.if-count-lt-MSG_HEADER_SIZE.false c.decode-header.result (rw c.deref.ensures at c.decode-header.ensures.read)
    (sym c.is_awaited.ensures ∙ c.if-not-is_awaited.false) (state c.recv_behind.new.self) (state c.put_back-in-Err.new.self) c.recv_behind.new.self.text.value c.in-Err.error (rw c.get_size-size.ensures at c.in-Err.ensures) c.put_back-in-Err.ensures.state
