use Rattle.std.proofs.Common.{ℕ, ◌≡◌, ◌+◌, ◌-◌, rules, sym, ◌∙◌, arith, ap, take, drop, length, ◌≤◌, inl, inr, refl}
use Rattle.vhost_connection.specs.Came.{behind}
use Rattle.vhost_connection.proofs.Came.{came-as, cut-as, front-as, came-listed, came-given, cut-only}
use Rattle.vhost_connection.proofs.Bodies.{front-short, front-more, message-bad, message-whole, bad-left, bad-right}
use Rattle.vhost_connection.proofs.Errors.{passed-on}
use Rattle.vhost_connection.proofs.endpoint.Endpoint.recv_payload.Goals as goal
use Rattle.vhost_connection.proofs.endpoint.Endpoint.recv_payload.Goals.{then-not-is_valid-via-then-not-is_valid, then-not-is_valid-via-else-not-is_valid+then-not-is_valid-2}

-- the header's size and the record's
sizes : (head size all : ℕ) → head ≡ 12 → size ≡ all → head + size ≡ 12 + all
sizes head size all h s = omega arith

rest-size : (head size all : ℕ) → size ≡ all → head + size - head ≡ all
rest-size head size all s = omega arith

pub returns-in_err-count : goal.returns-in_err-count
returns-in_err-count g c =
    let whole = sizes c.SIZE-head.result c.SIZE.result g.T.ByteValued.SIZE (search rules) c.SIZE.ensures in
    let p = c.in_err-count.ensures in
    rw (passed-on c.from_residual.result c.from_residual.ensures.1) (p.0, p.1 ∙ ap (λ n. behind n p.0 c.args.buf.now) whole, inr (cut-as (ap (λ n. n + length c.args.buf.now) whole) (cut-only p.2)))

pub returns-then-count-len : goal.returns-then-count-len
returns-then-count-len g c =
    let twelve : c.SIZE-head.result ≡ 12 = search rules in
    let whole = sizes c.SIZE-head.result c.SIZE.result g.T.ByteValued.SIZE twelve c.SIZE.ensures in
    let p = c.in_ok-count.ensures in
    let room = p.1 ∙ ap (λ n. behind n p.0 c.args.buf.now) whole in
    let m = came-as (ap (λ n. n + length c.args.buf.now) whole) p.2.0 in
    let f = front-as whole p.2.1.front in
    (p.0, room, inl (came-listed m c.put_back.ensures.state, front-short f (omega (arith, whole, c.if-count-len.true))))

pub returns-then-not-is_valid : goal.returns-then-not-is_valid
returns-then-not-is_valid g c =
    let twelve : c.SIZE-head.result ≡ 12 = search rules in
    let whole = sizes c.SIZE-head.result c.SIZE.result g.T.ByteValued.SIZE twelve c.SIZE.ensures in
    let p = c.in_ok-count.ensures in
    let room = p.1 ∙ ap (λ n. behind n p.0 c.args.buf.now) whole in
    let m = came-as (ap (λ n. n + length c.args.buf.now) whole) p.2.0 in
    let f = front-as whole p.2.1.front in (
      p.0,
      room,
      inl (
        came-listed m c.put_back-then-not-is_valid.ensures.state,
        message-bad g.M.ByteValued.read g.M.VhostUserMsgValidator.valid g.T.ByteValued.SIZE g.T.ByteValued.read g.T.VhostUserMsgValidator.valid f (omega (arith, whole, c.if-count-len.false)) c.decode-header.result c.decode-body.result
            ((rw c.deref.ensures at c.decode-header.ensures.read) ∙ ap (λ n. g.M.ByteValued.read (take n c.recv_parts.new.self.text.value)) twelve)
            ((rw c.deref-2.ensures at c.decode-body.ensures.read) ∙ ap (λ n. g.T.ByteValued.read (take n (drop c.SIZE-head.result c.recv_parts.new.self.text.value))) (rest-size c.SIZE-head.result c.SIZE.result g.T.ByteValued.SIZE c.SIZE.ensures) ∙ ap (λ n. g.T.ByteValued.read (take g.T.ByteValued.SIZE (drop n c.recv_parts.new.self.text.value))) twelve)
            (elim c.then-not-is_valid.branch [
              | then-not-is_valid-via-then-not-is_valid w ↦ bad-left _ _ (sym c.is_valid.ensures ∙ w.if-not-is_valid.true)
              | then-not-is_valid-via-else-not-is_valid+then-not-is_valid-2 w ↦ bad-right _ _ (sym w.is_valid-else-not-is_valid.ensures ∙ w.if-not-is_valid-2.true)
            ]),
      ),
    )

pub returns : goal.returns
returns g c =
    let twelve : c.SIZE-head.result ≡ 12 = search rules in
    let whole = sizes c.SIZE-head.result c.SIZE.result g.T.ByteValued.SIZE twelve c.SIZE.ensures in
    let p = c.in_ok-count.ensures in
    let room = p.1 ∙ ap (λ n. behind n p.0 c.args.buf.now) whole in
    let m = came-as (ap (λ n. n + length c.args.buf.now) whole) p.2.0 in
    let f = front-as whole p.2.1.front in
    let most : 12 + g.T.ByteValued.SIZE ≤ c.in_ok-count.field-0.count = omega (arith, whole, c.if-count-len.false) in (
      p.0,
      room,
      (
        came-given m _ refl c.give.ensures.state f.first,
        (
          front-more f most,
          message-whole g.M.ByteValued.read g.M.VhostUserMsgValidator.valid g.T.ByteValued.SIZE g.T.ByteValued.read g.T.VhostUserMsgValidator.valid f most c.decode-header.result c.decode-body.result
              ((rw c.deref.ensures at c.decode-header.ensures.read) ∙ ap (λ n. g.M.ByteValued.read (take n c.recv_parts.new.self.text.value)) twelve)
              ((rw c.deref-2.ensures at c.decode-body.ensures.read) ∙ ap (λ n. g.T.ByteValued.read (take n (drop c.SIZE-head.result c.recv_parts.new.self.text.value))) (rest-size c.SIZE-head.result c.SIZE.result g.T.ByteValued.SIZE c.SIZE.ensures) ∙ ap (λ n. g.T.ByteValued.read (take g.T.ByteValued.SIZE (drop n c.recv_parts.new.self.text.value))) twelve)
              c.give.result (sym c.is_valid.ensures ∙ c.if-not-is_valid.false) (sym c.is_valid-else-not-is_valid.ensures ∙ c.if-not-is_valid-2.false) c.give.ensures.given,
        ),
      ),
    )
