-- A request goes out whole.
use Rattle.std.proofs.Common.{ℕ, ◌+◌, ◌≤◌, ◌++◌, length, ap, ◌∙◌, arith}
use Rattle.std.proofs.lemmas.List.{length-append}
use Rattle.vhost_message.specs.declared.limits.TheConstants.{MAX_MSG_SIZE}
use Rattle.vhost_message.specs.Header.{Header, with_version}
use Rattle.vhost_message.specs.MsgHeader.{fields_of}
use Rattle.vhost_connection.specs.State.{state}
use Rattle.vhost_connection.proofs.Asking.{whole-goes, front-fails}
use Rattle.vhost_connection.proofs.Errors.{passed-on}
use Rattle.vhost_connection.proofs.endpoint.asks.Endpoint+VhostUserMsgHeader+R+L.send_request.Goals as goal

abbrev head_with : ℕ → ℕ → ℕ → Header
head_with code flags size = record { code = code; flags = with_version flags; size = size }

pub returns-in_err-begin_request : goal.returns-in_err-begin_request
returns-in_err-begin_request g c p text = rw (passed-on c.from_residual.result c.from_residual.ensures.1) c.in_err-begin_request.ensures.fails

pub returns-in-Ok : goal.returns-in-Ok
returns-in-Ok g c p text =
    whole-goes g.L.Link.event g.R.Req.number c.args.code c.args.flags p _ (g.T.ByteValued.text c.args.body.now) c.args.payload.now g.T.ByteValued.SIZE text
    (g.met.T.ByteValued.text_length c.args.body.now (c.in-Ok.ensures.fits (omega (arith, c.requires.size)) c.requires.size c.requires.handles))
    (state c.args.self.now) (state c.begin_request.new.self) (state c.send_message_with_payload.new.self) c.new-header.result c.in_ok-begin_request.ensures.begun.1
    (c.new-header.ensures ∙ ap (head_with (g.R.Req.number c.args.code) c.args.flags) (ap (λ (n : ℕ). n + length c.args.payload.now) c.SIZE.ensures))
    (c.in-Ok.ensures.sent (omega (arith, c.requires.size)) c.requires.size c.requires.handles)

pub returns-in-Err : goal.returns-in-Err
returns-in-Err g c p text =
    let long = g.met.T.ByteValued.text_length c.args.body.now (c.in-Err.ensures.fits (omega (arith, c.requires.size)) c.requires.size c.requires.handles) in
    let most : length (g.T.ByteValued.text c.args.body.now ++ c.args.payload.now) ≤ MAX_MSG_SIZE = omega (arith, length-append (g.T.ByteValued.text c.args.body.now) c.args.payload.now, long, c.requires.size) in
    front-fails g.L.Link.event _ (fields_of c.new-header.result) (g.T.ByteValued.text c.args.body.now ++ c.args.payload.now) (state c.args.self.now) (state c.begin_request.new.self) (state c.send_message_with_payload.new.self) c.in-Err.error most c.in_ok-begin_request.ensures.begun.0 c.in_ok-begin_request.ensures.begun.1
    (c.in-Err.ensures.sent (omega (arith, c.requires.size)) c.requires.size c.requires.handles)
