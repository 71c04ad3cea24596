-- A frontend's side of the reverse channel, as contracts see it.
use Rattle.std.specs.Prelude.{◌≡◌, ℕ, List, [], ◌∷◌, Option, Some, None, Result, Ok, Err, Vec, ⊤}
use Rattle.std.specs.Global.{Global}
use Rattle.vhost_message.specs.BackendReq.{backend_request_number}
use Rattle.vhost_message.specs.declared.backend_req.BackendReq.{BackendReq}
use Rattle.vhost_message.specs.declared.error.Error as declared
use Rattle.vhost_message.specs.declared.io_error.IoError as io
use Rattle.vhost_message.specs.declared.header.VhostUserMsgHeader.{VhostUserMsgHeader}
use Rattle.vhost_protocol.specs.Error.{InvalidMessage}
use Rattle.vhost_protocol.specs.IoError.{IoError, Of, seen_io_result}
use Rattle.vhost_protocol.specs.Reverse.{ReverseCall, ReverseStep, Refused, Calls, ReverseMeets, Server, bad_body, number_back, result_number, reverse_row_of, with_number}
use Rattle.vhost_protocol.specs.Served.{reply, cells_of}
use Rattle.vhost_protocol.specs.Split.{Message}
use Rattle.vhost_protocol.specs.Stream.{Cell}
use Rattle.vhost_link.specs.Law.{Event}
use Rattle.vhost_connection.specs.declared.endpoint.Endpoint.{Endpoint}
use Rattle.vhost_connection.specs.declared.request.Request.{Request}
use Rattle.vhost_connection.specs.State.{state}
use Rattle.vhost_connection.specs.Talk.{State}
use Rattle.vhost_connection.specs.Calls.{HandsOver}
use Rattle.vhost_connection.specs.Requests.{Reads, IsReady, Tells}
use Rattle.vhost_frontend_req_handler.specs.declared.asked.Asked.{Asked}
use Rattle.vhost_frontend_req_handler.specs.declared.asked.Asked.TheVariants.{Answered, BadBody, Unserved}
use Rattle.vhost_frontend_req_handler.specs.declared.call.Begun.{Begun}
use Rattle.vhost_frontend_req_handler.specs.declared.call.Begun.TheVariants as begun
use Rattle.vhost_frontend_req_handler.specs.declared.call.FrontendSideCall.{FrontendSideCall}
use Rattle.vhost_frontend_req_handler.specs.declared.req_core.FrontendReqCore.{FrontendReqCore}
use Rattle.vhost_frontend_req_handler.specs.Calling.{call_in}
use Rattle.vhost_frontend_req_handler.specs.Handling.{fitting}
use Rattle.vhost_connection.specs.Serving.{Answers}

-- its endpoint
abbrev pub endpoint_of : {L H : Type 0} → FrontendReqCore L H → State L H
endpoint_of c = state c.endpoint

-- what it remembers
abbrev pub server_in : {L H : Type 0} → FrontendReqCore L H → Server
server_in c = record { reply_ack = c.reply_ack; failed = c.failed }

-- it, over another endpoint
abbrev pub with_endpoint : {L H : Type 0} → FrontendReqCore L H → Endpoint (VhostUserMsgHeader BackendReq) L H → FrontendReqCore L H
with_endpoint c endpoint = record c { endpoint = endpoint }

-- the first of some handles
abbrev pub first_of : {H : Type 0} → List H → Option H
first_of [] = None
first_of (h ∷ hs) = Some h

-- a known request that is not served: a refusal that is acknowledged
abbrev pub unserved : {H : Type 0} → Server → Message BackendReq H → ReverseStep H
unserved s m = Refused (record { answer = Err InvalidMessage; served = number_back s m (Err (Of InvalidMessage)) })

-- A row up to the answer of the device: its one call, or why there is none.
pub data Asks {H Dev : Type 0} (gives : Dev → ReverseCall H → Result ℕ IoError → Dev → Type 0) (s : Server) (m : Message BackendReq H) (step : ReverseStep H) (d : Dev) : Asked → Dev → Type 0 where
  calls : {a : Result ℕ io.IoError} {d' : Dev} (c : ReverseCall H) → step ≡ Calls c (with_number s m) → gives d c (seen_io_result a) d' → Asks gives s m step d (Answered a) d'
  is_bad : step ≡ bad_body → Asks gives s m step d BadBody d
  is_unserved : step ≡ unserved s m → Asks gives s m step d Unserved d

-- What a request becomes, by its row.
pub data Begins {H : Type 0} (s : Server) (m : Message BackendReq H) (step : ReverseStep H) : Begun H → Type 0 where
  calls : (c : FrontendSideCall H) → step ≡ Calls (call_in c) (with_number s m) → Begins s m step (begun.Calls c)
  is_bad : step ≡ bad_body → Begins s m step begun.BadBody
  is_unserved : step ≡ unserved s m → Begins s m step begun.Unserved

-- the same of a request that was read, and where it is given the handles of the message
abbrev pub BeginsRow : {L H : Type 0} → BackendReq → FrontendReqCore L H → Request BackendReq → Begun H → Type 0
BeginsRow {H = H} r c request b = (m : Message BackendReq H) → Reads c.body.value request m → Begins (server_in c) m (reverse_row_of r (server_in c) m) b

abbrev pub BeginsRowWith : {L H : Type 0} → BackendReq → FrontendReqCore L H → Request BackendReq → Option (Vec H Global) → Begun H → Type 0
BeginsRowWith {H = H} r c request handles b = (m : Message BackendReq H) → Reads c.body.value request m → HandsOver handles m.handles → Begins (server_in c) m (reverse_row_of r (server_in c) m) b

module _ {L H Dev : Type 0} (gives : Dev → ReverseCall H → Result ℕ IoError → Dev → Type 0) where
  -- A request follows the row of its code up to the device's answer: of the message that it is, with these handles.
  abbrev pub AsksRowWith : BackendReq → FrontendReqCore L H → Dev → Request BackendReq → Option (Vec H Global) → Asked → Dev → Type 0
  AsksRowWith r c d request handles asked d' = (m : Message BackendReq H) → Reads c.body.value request m → HandsOver handles m.handles → Asks gives (server_in c) m (reverse_row_of r (server_in c) m) d asked d'

-- what goes back to a request for an answer: of its message, the code and the flags count
abbrev pub number_cells : {H : Type 0} → Server → Request BackendReq → Result ℕ IoError → List (Cell H)
number_cells s request a =
    let m : Message BackendReq _ = record { request = request.code; reply = request.reply; need_reply = request.need_reply; body = []; handles = [] } in
    cells_of backend_request_number (reply request.code (number_back s m a))

-- The number that stands for an answer goes back, where the request wants it.
abbrev pub Acknowledges : {L H : Type 0} → (L → Event H → L → Type 0) → FrontendReqCore L H → Request BackendReq → ℕ → Result ⊤ declared.Error → FrontendReqCore L H → Type 0
Acknowledges event old request number result new = (answer : Result ℕ IoError) → IsReady (endpoint_of old) → number ≡ result_number answer
    → Tells event (endpoint_of old) (number_cells (server_in old) request answer) (Ok tt) result (endpoint_of new)

-- A request meets its row: the message that it is, over an endpoint that can reply.
abbrev pub MeetsRow : {L H Dev : Type 0} → (L → Event H → L → Type 0) → (Dev → ReverseCall H → Result ℕ IoError → Dev → Type 0)
    → FrontendReqCore L H → Dev → Request BackendReq → Option (Vec H Global) → Result ℕ declared.Error → FrontendReqCore L H → Dev → Type 0
MeetsRow {H = H} event gives old d request handles result new d' = (m : Message BackendReq H) → Reads old.body.value request m → HandsOver handles m.handles → IsReady (endpoint_of old)
    → Answers event (ReverseMeets (fitting gives) (server_in old) d m) (λ s. s) (endpoint_of old) result (endpoint_of new) (server_in new) d'
