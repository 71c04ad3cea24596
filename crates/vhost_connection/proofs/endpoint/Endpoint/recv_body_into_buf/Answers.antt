use Rattle.std.proofs.Common.{rules, sym, ◌∙◌, inl, inr, refl, subst, ◌≡◌, ◌+◌, ap, length, take, arith}
use Rattle.vhost_connection.specs.Came.{behind}
use Rattle.vhost_connection.specs.Calls.{HandsOver}
use Rattle.vhost_connection.proofs.Came.{came-as, cut-as, front-as, came-listed, came-given, cut-only}
use Rattle.vhost_connection.proofs.Bodies.{front-short, front-more, into-head, into-bad}
use Rattle.vhost_connection.proofs.Errors.{passed-on}
use Rattle.vhost_connection.proofs.endpoint.Endpoint.recv_body_into_buf.Goals as goal

pub returns-in_err-count : goal.returns-in_err-count
returns-in_err-count g c =
    let twelve : c.SIZE-len.result ≡ 12 = search rules in
    let p = c.in_err-count.ensures in
    rw (passed-on c.from_residual.result c.from_residual.ensures.1) (p.0, p.1 ∙ ap (λ n. behind n p.0 c.args.buf.now) twelve, inr (cut-as (ap (λ n. n + length c.args.buf.now) twelve) (cut-only p.2)))

pub returns-then-count-len : goal.returns-then-count-len
returns-then-count-len g c =
    let twelve : c.SIZE-len.result ≡ 12 = search rules in
    let p = c.in_ok-count.ensures in
    let room = p.1 ∙ ap (λ n. behind n p.0 c.args.buf.now) twelve in
    let m = came-as (ap (λ n. n + length c.args.buf.now) twelve) p.2.0 in
    let f = front-as twelve p.2.1.front in
    (p.0, room, inl (came-listed m c.put_back.ensures.state, front-short f (omega (arith, twelve, c.if-count-len.true))))

pub returns-then-not-is_valid : goal.returns-then-not-is_valid
returns-then-not-is_valid g c =
    let twelve : c.SIZE-len.result ≡ 12 = search rules in
    let p = c.in_ok-count.ensures in
    let room = p.1 ∙ ap (λ n. behind n p.0 c.args.buf.now) twelve in
    let m = came-as (ap (λ n. n + length c.args.buf.now) twelve) p.2.0 in
    let f = front-as twelve p.2.1.front in (
      p.0,
      room,
      inl (
        came-listed m c.put_back-then-not-is_valid.ensures.state,
        into-bad g.M.ByteValued.read g.M.VhostUserMsgValidator.valid f (omega (arith, twelve, c.if-count-len.false)) c.decode-header.result ((rw c.deref.ensures at c.decode-header.ensures.read) ∙ ap (λ n. g.M.ByteValued.read (take n c.recv_parts.new.self.text.value)) twelve) (sym c.is_valid.ensures ∙ c.if-not-is_valid.true),
      ),
    )

pub returns : goal.returns
returns g c =
    let twelve : c.SIZE-len.result ≡ 12 = search rules in
    let p = c.in_ok-count.ensures in
    let room = p.1 ∙ ap (λ n. behind n p.0 c.args.buf.now) twelve in
    let m = came-as (ap (λ n. n + length c.args.buf.now) twelve) p.2.0 in
    let f = front-as twelve p.2.1.front in (
      p.0,
      room,
      (
        came-given m _ refl c.give.ensures.state f.first,
        (
          front-more f (omega (arith, twelve, c.if-count-len.false)),
          into-head g.M.ByteValued.read g.M.VhostUserMsgValidator.valid f (omega (arith, twelve, c.if-count-len.false)) c.decode-header.result ((rw c.deref.ensures at c.decode-header.ensures.read) ∙ ap (λ n. g.M.ByteValued.read (take n c.recv_parts.new.self.text.value)) twelve),
          sym c.is_valid.ensures ∙ c.if-not-is_valid.false,
          subst (λ hs. HandsOver c.give.result hs) f.first c.give.ensures.given,
        ),
      ),
    )
