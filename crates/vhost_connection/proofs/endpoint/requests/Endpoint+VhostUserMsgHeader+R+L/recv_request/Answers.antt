-- A request is read, once the list of its handles is there.
use Rattle.std.proofs.Common.{length, ap, refl, ◌∙◌}
use Rattle.vhost_message.specs.Codes.{heard_by}
use Rattle.vhost_connection.specs.State.{ahead_of, state}
use Rattle.vhost_connection.specs.Talk.{State}
use Rattle.vhost_connection.proofs.Errors.{passed-on}
use Rattle.vhost_connection.proofs.Reading.{head-failed, message-given, taken-back, message-begun, none-begun, none-wanted}
use Rattle.vhost_connection.proofs.endpoint.requests.Endpoint+VhostUserMsgHeader+R+L.recv_request.Goals as goal

pub returns-in_err-make_list : goal.returns-in_err-make_list
unfolding ahead_of
returns-in_err-make_list g c =
    rw (passed-on c.from_residual.result c.from_residual.ensures.1) (none-wanted g.L.Link.event (heard_by g.R.Req.code g.R.Req.any c.args.any_number) g.R.RequestCode.allowed (state c.args.self.now) _ c.in_err-make_list.ensures.memory.0 c.in_err-make_list.ensures.memory.1 c.in_err-make_list.ensures.memory.2)

pub returns-in-Some : goal.returns-in-Some
unfolding ahead_of
returns-in-Some g c =
    let made = c.in_ok-make_list.ensures.made in
    message-begun g.L.Link.event (heard_by g.R.Req.code g.R.Req.any c.args.any_number) g.R.RequestCode.allowed (state c.args.self.now) made
    (c.in-Some.ensures.taken (ap (λ (s : State _ _). s.faulted) made) (ap (λ (s : State _ _). s.list) made))

pub returns-in_err-header : goal.returns-in_err-header
unfolding ahead_of
returns-in_err-header g c =
    let made = c.in_default.ensures.none refl ∙ c.in_ok-make_list.ensures.made in
    rw (passed-on c.from_residual-in_err-header.result c.from_residual-in_err-header.ensures.1)
    (none-begun g.L.Link.event (heard_by g.R.Req.code g.R.Req.any c.args.any_number) g.R.RequestCode.allowed (state c.args.self.now) _ made
    (head-failed g.L.Link.event (heard_by g.R.Req.code g.R.Req.any c.args.any_number) g.R.RequestCode.allowed (state c.take_waiting.new.self) (state c.recv_head.new.self) _ (ap (λ (s : State _ _). s.list) made) c.in_err-header.ensures))

pub returns-in-Ok : goal.returns-in-Ok
unfolding ahead_of
returns-in-Ok g c =
    message-begun g.L.Link.event (heard_by g.R.Req.code g.R.Req.any c.args.any_number) g.R.RequestCode.allowed (state c.args.self.now) (c.in_default.ensures.none refl ∙ c.in_ok-make_list.ensures.made)
    (message-given g.L.Link.event (heard_by g.R.Req.code g.R.Req.any c.args.any_number) g.R.RequestCode.allowed (state c.take_waiting.new.self) (state c.recv_request_body.new.self) (state c.give.new.self) c.in-Ok.request c.give.result c.in_ok-header.front.list.items c.recv_request_body.new.body
    (c.in-Ok.ensures (state c.take_waiting.new.self) c.in_ok-header.front.list.items c.in_ok-header.ensures (ap (λ hs. length hs) c.as_slice.ensures.value)) c.give.ensures.given c.give.ensures.state)

pub returns-in-Err : goal.returns-in-Err
unfolding ahead_of
returns-in-Err g c =
    none-begun g.L.Link.event (heard_by g.R.Req.code g.R.Req.any c.args.any_number) g.R.RequestCode.allowed (state c.args.self.now) _ (c.in_default.ensures.none refl ∙ c.in_ok-make_list.ensures.made)
    (taken-back g.L.Link.event (heard_by g.R.Req.code g.R.Req.any c.args.any_number) g.R.RequestCode.allowed (state c.take_waiting.new.self) (state c.recv_request_body.new.self) (state c.put_back.new.self) c.in_ok-header.front.list.items c.in-Err.error c.recv_request_body.new.body
    (c.in-Err.ensures (state c.take_waiting.new.self) c.in_ok-header.front.list.items c.in_ok-header.ensures (ap (λ hs. length hs) c.as_slice.ensures.value)) c.put_back.ensures.state)
