-- The body of a request is read.
use Rattle.std.proofs.Common.{◌≡◌, refl, ap, sym, take, drop, length, ◌∙◌, arith}
use Rattle.std.proofs.lemmas.List.{length-take-le, take_all, take_at}
use Rattle.vhost_message.specs.declared.header.VhostUserMsgHeader.{VhostUserMsgHeader}
use Rattle.vhost_message.specs.Bits.{has_bit}
use Rattle.vhost_message.specs.MsgHeader.{fields_of}
use Rattle.vhost_protocol.proofs.Splitting.{message_in}
use Rattle.vhost_message.specs.Codes.{heard_by}
use Rattle.vhost_connection.specs.State.{state}
use Rattle.vhost_connection.proofs.Errors.{passed-on}
use Rattle.vhost_connection.proofs.Reading.{unwanted, request-came, head-size, valid-size, body-failed, body-cut, message-came, body-length}
use Rattle.vhost_connection.proofs.endpoint.requests.Endpoint+VhostUserMsgHeader+R+L.recv_request_body.Goals as goal

pub returns-then-not-allows_handles : goal.returns-then-not-allows_handles
returns-then-not-allows_handles g c before hs h count =
    unwanted g.L.Link.event (heard_by g.R.Req.code g.R.Req.any c.args.any_number) g.R.RequestCode.allowed h c.in_ok-code.code _ c.args.handles c.allows_handles.result c.in_ok-code.ensures count c.allows_handles.ensures c.if-not-allows_handles.true

pub returns-in_err-recv_rest_of_message : goal.returns-in_err-recv_rest_of_message
returns-in_err-recv_rest_of_message g c before hs h count =
    let came = request-came g.L.Link.event (heard_by g.R.Req.code g.R.Req.any c.args.any_number) g.R.RequestCode.allowed h c.in_ok-code.code _ c.args.handles c.allows_handles.result c.in_ok-code.ensures count c.allows_handles.ensures c.if-not-allows_handles.false in
    let small = valid-size _ c.args.header.now c.requires.valid in
    let room = length-take-le c.get_size-len.result c.args.body.now (omega (arith, c.requires.room, c.get_size-len.ensures, small)) in
    let p = c.in_err-recv_rest_of_message.ensures in
    rw (passed-on c.from_residual-in_err-recv_rest_of_message.result c.from_residual-in_err-recv_rest_of_message.ensures.1)
    (body-failed g.L.Link.event (heard_by g.R.Req.code g.R.Req.any c.args.any_number) g.R.RequestCode.allowed before (state c.args.self.now) _ h.0 p.0 c.in_ok-code.code _ came (room ∙ c.get_size-len.ensures ∙ head-size h.0 h.1.1.1) _ p.1)

pub returns-then-branch-len : goal.returns-then-branch-len
returns-then-branch-len g c before hs h count =
    let came = request-came g.L.Link.event (heard_by g.R.Req.code g.R.Req.any c.args.any_number) g.R.RequestCode.allowed h c.in_ok-code.code _ c.args.handles c.allows_handles.result c.in_ok-code.ensures count c.allows_handles.ensures c.if-not-allows_handles.false in
    let small = valid-size _ c.args.header.now c.requires.valid in
    let room = length-take-le c.get_size-len.result c.args.body.now (omega (arith, c.requires.room, c.get_size-len.ensures, small)) in
    let p = c.in_ok-recv_rest_of_message.ensures in
    body-cut g.L.Link.event (heard_by g.R.Req.code g.R.Req.any c.args.any_number) g.R.RequestCode.allowed before (state c.args.self.now) _ h.0 p.0 c.in_ok-code.code _ came
    (room ∙ c.get_size-len.ensures ∙ head-size h.0 h.1.1.1) p.1.0 (omega (arith, c.if-branch-len.true, p.1.1.1, room))

pub returns : goal.returns
returns g c before hs h count =
    let came = request-came g.L.Link.event (heard_by g.R.Req.code g.R.Req.any c.args.any_number) g.R.RequestCode.allowed h c.in_ok-code.code _ c.args.handles c.allows_handles.result c.in_ok-code.ensures count c.allows_handles.ensures c.if-not-allows_handles.false in
    let small = valid-size _ c.args.header.now c.requires.valid in
    let len = c.get_size-len.result in
    let room = length-take-le len c.args.body.now (omega (arith, c.requires.room, c.get_size-len.ensures, small)) in
    let p = c.in_ok-recv_rest_of_message.ensures in
    let all : length p.0 ≡ len = omega (arith, p.1.0.within, p.1.1.1, room, c.if-branch-len.false) in
    let count : c.in_ok-recv_rest_of_message.field-0 ≡ len = p.1.1.1 ∙ all in
    let now = c.recv_rest_of_message.new.room in
    let size : length now ≡ len = c.recv_rest_of_message.auto.room ∙ room in (
      message_in c.in_ok-code.code h.0 p.0,
      record {
        code = refl;
        reply = c.is_reply.ensures ∙ ap (λ (x : VhostUserMsgHeader _). has_bit (fields_of x).flags 2) h.1.1.1;
        need_reply = c.is_need_reply.ensures ∙ ap (λ (x : VhostUserMsgHeader _). has_bit (fields_of x).flags 3) h.1.1.1;
        len = body-length len p.0 (sym all);
        body = take_at now (drop len c.args.body.now) len size ∙ sym (take_all len now (omega (arith, size))) ∙ ap (λ n. take n now) (sym count) ∙ p.1.1.2;
      },
      sym h.1.1.3,
      message-came g.L.Link.event (heard_by g.R.Req.code g.R.Req.any c.args.any_number) g.R.RequestCode.allowed before (state c.args.self.now) _ h.0 p.0 c.in_ok-code.code _ came
          (room ∙ c.get_size-len.ensures ∙ head-size h.0 h.1.1.1) p.1.0 (omega (arith, all, room)) p.1.1.0,
      p.1.0.listed ∙ h.1.0.listed,
    )
