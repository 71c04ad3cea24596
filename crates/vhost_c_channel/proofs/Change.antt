-- The report of a changed configuration space: what a frontend's session makes of it, and replies.
use Rattle.std.proofs.Common.{◌≡◌, ℕ, Bool, true, false, List, [], ◌∷◌, Option, None, Ok, refl}
use Rattle.std.specs.Prelude.{if◌then◌else◌}
use Rattle.vhost_message.specs.BackendReq.{backend_request_number, backend_request_of}
use Rattle.vhost_message.specs.Cause.{error_of, is_break, is_denial, is_retry}
use Rattle.vhost_message.specs.declared.backend_req.BackendReq.{BackendReq}
use Rattle.vhost_message.specs.declared.backend_req.BackendReq.TheVariants.{CONFIG_CHANGE_MSG}
use Rattle.vhost_message.specs.declared.cause.IoCause.{IoCause}
use Rattle.vhost_message.specs.declared.error.Error.TheVariants.{SocketBroken, SocketConnect, SocketError, SocketRetry}
use Rattle.vhost_protocol.specs.Reverse.{Calls, HandleConfigChange, ReverseCall, Server, backend_allows_handles, reverse_row_of, with_number}
use Rattle.vhost_protocol.specs.Served.{Replied, Silent, cells_of, reply}
use Rattle.vhost_protocol.specs.Split.{body_outcome, split, split_after, split_body}
use Rattle.vhost_protocol.specs.Stream.{Cell, plain}
use Rattle.vhost_protocol.specs.Written.{U64}
use Rattle.vhost_link.specs.declared.plain.PlainHandle.{PlainHandle}
use Rattle.vhost_connection.specs.declared.request.Request as code
use Rattle.vhost_frontend_req_handler.specs.Calling.{call_in}
use Rattle.vhost_frontend_req_handler.specs.declared.call.FrontendSideCall.{FrontendSideCall}
use Rattle.vhost_frontend_req_handler.specs.declared.call.FrontendSideCall.TheVariants as call
use Rattle.vhost_c_channel.specs.Arguments.{call_number}
use Rattle.vhost_c_channel.specs.Serving.{Request, is_handed}

-- the report, and its bytes
abbrev pub change : Request
change = record { request = CONFIG_CHANGE_MSG; reply = false; need_reply = true; body = []; handles = [] }

abbrev pub report : List ℕ
report = 2 ∷ 0 ∷ 0 ∷ 0 ∷ 9 ∷ 0 ∷ 0 ∷ 0 ∷ 0 ∷ 0 ∷ 0 ∷ 0 ∷ []

pub splits : split backend_request_of backend_allows_handles (plain report) ≡ (Ok change, [])
unfolding split split_after split_body body_outcome
splits = refl

-- what is remembered
abbrev pub replying : Server
replying = record { reply_ack = true; failed = None }

-- what a session keeps between two calls
abbrev pub Kept : Type 0
Kept = Server × Option (code.Request BackendReq) × List ℕ × Option (FrontendSideCall PlainHandle)

-- ---- its call

-- what the device asks
abbrev asked : ReverseCall PlainHandle
asked = HandleConfigChange

is-change : (c : FrontendSideCall PlainHandle) → asked ≡ call_in c → call_number c ≡ 2
is-change call.ConfigChange is = refl
is-change (call.SharedObjectAdd n) is = absurd (cc is)
is-change (call.SharedObjectRemove n) is = absurd (cc is)
is-change (call.SharedObjectLookup n h) is = absurd (cc is)
is-change (call.ShmemMap m h) is = absurd (cc is)
is-change (call.ShmemUnmap m) is = absurd (cc is)

pub called : (c : FrontendSideCall PlainHandle) (s : Server) → reverse_row_of CONFIG_CHANGE_MSG s change ≡ Calls (call_in c) (with_number s change) → call_number c ≡ 2
called c s row = is-change c (cc row)

-- ---- its reply

-- an error of the link is none that is handed on
pub unhanded : (c : IoCause) → is_handed (error_of c) ≡ false
unhanded c = go (is_retry c) (is_break c) (is_denial c)
  where
    go : (r b d : Bool) → is_handed (if r then SocketRetry c else if b then SocketBroken c else if d then SocketConnect c else SocketError c) ≡ false
    go true b d = refl
    go false true d = refl
    go false false true = refl
    go false false false = refl

-- the reply to a request of this code, which wants one or does not
abbrev pub acknowledged : BackendReq → Bool → List (Cell PlainHandle)
acknowledged code wanted = cells_of backend_request_number (reply code (if wanted then Replied (U64 0) [] else Silent))
