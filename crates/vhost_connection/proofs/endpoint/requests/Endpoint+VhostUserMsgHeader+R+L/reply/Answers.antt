-- A reply goes out, or a fault stops it.
use Rattle.std.proofs.Common.{ℕ, ◌+◌, ◌++◌, ◌≤◌, Err, length, map, ap, ◌∙◌, arith, length-append}
use Rattle.vhost_message.specs.declared.limits.TheConstants.{MAX_MSG_SIZE}
use Rattle.vhost_message.specs.Header.{Header}
use Rattle.vhost_connection.specs.State.{state}
use Rattle.vhost_connection.proofs.Replying.{reply-sent, reply-stopped, reply-broken, reply-unsent}
use Rattle.vhost_connection.proofs.endpoint.requests.Endpoint+VhostUserMsgHeader+R+L.reply.Goals as goal

-- the header of a reply
abbrev reply_head : ℕ → ℕ → Header
reply_head code size = record { code = code; flags = 5; size = size }

pub returns-in-Ok-clause-sends : goal.returns-in-Ok-clause-sends
returns-in-Ok-clause-sends g c sound =
    let text = g.T.ByteValued.text c.args.body.now ++ c.args.payload.now in
    let head = c.new-header.ensures ∙ ap (reply_head (g.R.Req.number c.args.code)) (ap (λ n. n + length c.args.payload.now) c.SIZE.ensures) in
    let small : g.T.ByteValued.SIZE ≤ MAX_MSG_SIZE = omega (arith, c.requires.size) in
    let len = length-append (g.T.ByteValued.text c.args.body.now) c.args.payload.now ∙ ap (λ n. n + length c.args.payload.now) (g.met.T.ByteValued.text_length c.args.body.now (c.in-Ok.ensures.fits small c.requires.size c.requires.handles)) in
    reply-sent g.L.Link.event g.R.Req.number (state c.args.self.now) _ c.args.code (map (λ h. h.now) c.args.handles.now) _ (g.T.ByteValued.SIZE + length c.args.payload.now) text head len (c.in-Ok.ensures.sent small c.requires.size c.requires.handles)

pub returns-in-Err-clause-sends : goal.returns-in-Err-clause-sends
returns-in-Err-clause-sends g c sound =
    let text = g.T.ByteValued.text c.args.body.now ++ c.args.payload.now in
    let head = c.new-header.ensures ∙ ap (reply_head (g.R.Req.number c.args.code)) (ap (λ n. n + length c.args.payload.now) c.SIZE.ensures) in
    let small : g.T.ByteValued.SIZE ≤ MAX_MSG_SIZE = omega (arith, c.requires.size) in
    let len = length-append (g.T.ByteValued.text c.args.body.now) c.args.payload.now ∙ ap (λ n. n + length c.args.payload.now) (g.met.T.ByteValued.text_length c.args.body.now (c.in-Err.ensures.fits small c.requires.size c.requires.handles)) in
    reply-stopped g.L.Link.event g.R.Req.number (state c.args.self.now) _ _ c.args.code (map (λ h. h.now) c.args.handles.now) _ (g.T.ByteValued.SIZE + length c.args.payload.now) text _ head len c.requires.size sound
    (c.in-Err.ensures.sent small c.requires.size c.requires.handles) c.break_on_fault.ensures

pub returns-in-Ok-clause-broken : goal.returns-in-Ok-clause-broken
returns-in-Ok-clause-broken g c cause broken = absurd (reply-unsent g.L.Link.event (state c.args.self.now) _ _ cause broken (c.in-Ok.ensures.sent (omega (arith, c.requires.size)) c.requires.size c.requires.handles))

pub returns-in-Err-clause-broken : goal.returns-in-Err-clause-broken
returns-in-Err-clause-broken g c cause broken =
    let q = reply-broken g.L.Link.event (state c.args.self.now) _ _ _ _ cause broken (c.in-Err.ensures.sent (omega (arith, c.requires.size)) c.requires.size c.requires.handles) c.break_on_fault.ensures in
    (ap (λ x. Err x) q.0, q.1)
