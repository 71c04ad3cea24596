use Rattle.std.proofs.Common.{rules, sym, ◌∙◌, inl, inr, ◌≡◌, ap, take, arith, add-zero}
use Rattle.vhost_connection.specs.State.{ahead_of}
use Rattle.vhost_connection.proofs.Came.{came-as, cut-as, front-as, cut-only, begins-cut}
use Rattle.vhost_connection.proofs.Messages.{header-none, header-part, header-bad, head-whole}
use Rattle.vhost_connection.proofs.Errors.{passed-on}
use Rattle.vhost_connection.proofs.endpoint.Endpoint.recv_head.Goals as goal

pub returns-in_err-front : goal.returns-in_err-front
returns-in_err-front g c =
    let twelve : c.SIZE-len.result ≡ 12 = search rules in
    let p = c.in_err-front.ensures in
    rw (passed-on c.from_residual.result c.from_residual.ensures.1) (p.0, inr (begins-cut (cut-as twelve (cut-only p.1))))

pub returns-then-front-eq0 : goal.returns-then-front-eq0
unfolding ahead_of
returns-then-front-eq0 g c =
    let twelve : c.SIZE-len.result ≡ 12 = search rules in
    let p = c.in_ok-front.ensures in
    let m = came-as (add-zero _ ∙ twelve) p.1.1.begins in
    let f = front-as twelve p.1.1.front in
    (p.0, inl (header-none m f c.if-front-eq0.true c.put_back.ensures.state))

pub returns-then-front-len : goal.returns-then-front-len
unfolding ahead_of
returns-then-front-len g c =
    let twelve : c.SIZE-len.result ≡ 12 = search rules in
    let p = c.in_ok-front.ensures in
    let m = came-as (add-zero _ ∙ twelve) p.1.1.begins in
    let f = front-as twelve p.1.1.front in
    (p.0, inl (header-part m f (omega (arith, twelve, c.if-front-len.true)) c.if-front-eq0.false c.put_back.ensures.state))

pub returns-then-not-is_heard : goal.returns-then-not-is_heard
unfolding ahead_of
returns-then-not-is_heard g c =
    let twelve : c.SIZE-len.result ≡ 12 = search rules in
    let p = c.in_ok-front.ensures in
    let m = came-as (add-zero _ ∙ twelve) p.1.1.begins in
    let f = front-as twelve p.1.1.front in
    (p.0, inl (header-bad m f g.M.ByteValued.read (g.M.MsgHeader.heard c.args.any_number) c.decode-header.result (omega (arith, twelve, c.if-front-len.false)) ((rw c.deref.ensures at c.decode-header.ensures.read) ∙ ap (λ n. g.M.ByteValued.read (take n c.recv_front.new.self.text.value)) twelve) (sym c.is_heard.ensures ∙ c.if-not-is_heard.true) c.put_back-then-not-is_heard.ensures.state))

pub returns : goal.returns
unfolding ahead_of
returns g c =
    let twelve : c.SIZE-len.result ≡ 12 = search rules in
    let p = c.in_ok-front.ensures in
    let m = came-as (add-zero _ ∙ twelve) p.1.1.begins in
    let f = front-as twelve p.1.1.front in
    (p.0, (m, head-whole m f g.M.ByteValued.read (g.M.MsgHeader.heard c.args.any_number) c.decode-header.result (omega (arith, twelve, c.if-front-len.false)) ((rw c.deref.ensures at c.decode-header.ensures.read) ∙ ap (λ n. g.M.ByteValued.read (take n c.recv_front.new.self.text.value)) twelve) (λ front hs. front.list.items ≡ hs) c.in_ok-front.front (sym c.is_heard.ensures ∙ c.if-not-is_heard.false) p.1.1.front.first))
