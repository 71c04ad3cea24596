-- The message that was read.
use Rattle.std.proofs.Common.{◌≡◌, ℕ, List, [], take, Option, Some, None, sym, ◌∙◌}
use Rattle.std.specs.Prelude.{Vec}
use Rattle.std.specs.Global.{Global}
use Rattle.vhost_message.specs.declared.heard_req.HeardReq.{HeardReq}
use Rattle.vhost_protocol.specs.Split.{Message}
use Rattle.vhost_connection.specs.Calls.{HandsOver}
use Rattle.vhost_connection.specs.Requests.{Reads}
use Rattle.vhost_connection.specs.declared.request.Request.{Request}
use Rattle.vhost_backend_req_handler_core.specs.Beginning.{IsRequest, handles_in, message_in}
use Rattle.vhost_backend_req_handler_core.specs.declared.incoming.Incoming.{Incoming}

pub hands_in : {H : Type 0} (handles : Option (Vec H Global)) (hs : List H) → HandsOver handles hs → handles_in handles ≡ hs
hands_in None hs h = sym h
hands_in (Some v) hs h = h.0

-- a message by its parts
pub message_is : {H : Type 0} (bytes text : List ℕ) (request : Request HeardReq) (handles : Option (Vec H Global)) (m : Message HeardReq H) (i : Incoming)
    → Reads bytes request m → HandsOver handles m.handles → IsRequest request.code request.reply request.need_reply text i → text ≡ take request.len bytes
    → message_in i (handles_in handles) ≡ m
message_is bytes text request handles m i reads over is e =
    let code = is.request ∙ reads.code in
    let reply = is.reply ∙ reads.reply in
    let need = is.need_reply ∙ reads.need_reply in
    let body = is.body ∙ e ∙ reads.body in
    let hands = hands_in handles m.handles over in
    λ j. record { request = code j; reply = reply j; need_reply = need j; body = body j; handles = hands j }
