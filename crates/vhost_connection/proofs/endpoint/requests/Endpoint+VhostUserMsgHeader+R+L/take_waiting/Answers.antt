-- A request that waits whole is taken.
use Rattle.std.proofs.Common.{arith, refl, sym, ap, subst, ◌∙◌, List, ℕ}
use Rattle.vhost_message.specs.Codes.{heard_by}
use Rattle.vhost_protocol.specs.Stream.{plain}
use Rattle.vhost_connection.specs.Ahead.{waiting}
use Rattle.vhost_connection.specs.Requests.{WaitsWhole}
use Rattle.vhost_connection.specs.State.{ahead_of, state}
use Rattle.vhost_connection.proofs.Waited.{waited, taken-out, none-of}
use Rattle.vhost_connection.proofs.endpoint.requests.Endpoint+VhostUserMsgHeader+R+L.take_waiting.Goals as goal

pub returns-in-Some-clause-taken : goal.returns-in-Some-clause-taken
unfolding ahead_of
returns-in-Some-clause-taken g c = λ fine listed.
    let q = c.in-Some.request in
    let text = waiting c.args.self.now.source.ahead in
    let w = subst (λ (bs : List ℕ). WaitsWhole (heard_by g.R.Req.code g.R.Req.any c.args.any_number) g.R.RequestCode.allowed bs q) c.front.ensures c.in-Some.ensures in
    let out = taken-out text (waiting c.skip.new.self) (waiting c.take_out.new.self) c.args.body.now c.take_out.new.room c.take_out.result q.len w.whole (omega (arith, c.requires, q.short)) c.skip.ensures c.take_out.ensures.count c.take_out.ensures.room c.take_out.ensures.left in
    waited g.L.Link.event (heard_by g.R.Req.code g.R.Req.any c.args.any_number) g.R.RequestCode.allowed q text w (state c.args.self.now) _ _ refl
    (none-of c.args.self.now.broken (sym c.is_some.ensures ∙ c.if-is_some.false)) fine listed
    (ap (λ (bs : List ℕ). record (state c.args.self.now) { ahead = plain bs }) out.0) out.1
