-- Serving a request of a backend in two halves.
use Rattle.std.specs.Prelude.{◌≡◌, ℕ, ◌<◌, ◌^◌, Some, None, Option, Result, Err, Vec, ⊤}
use Rattle.std.specs.Global.{Global}
use Rattle.vhost_message.specs.BackendReq.{backend_request_of}
use Rattle.vhost_message.specs.declared.backend_req.BackendReq.{BackendReq}
use Rattle.vhost_message.specs.declared.error.Error as declared
use Rattle.vhost_message.specs.declared.io_error.IoError as io
use Rattle.vhost_protocol.specs.Error.{seen_result}
use Rattle.vhost_protocol.specs.IoError.{IoError, seen_io_result}
use Rattle.vhost_protocol.specs.Reverse.{ReverseCall, Calls, Server, backend_allows_handles, handed_on, result_number, reverse_row_of, with_number}
use Rattle.vhost_link.specs.Law.{Event}
use Rattle.vhost_connection.specs.Requests.{ReadsMessage, Replies, Stops}
use Rattle.vhost_connection.specs.Talk.{State}
use Rattle.vhost_connection.specs.declared.request.Request.{Request}
use Rattle.vhost_frontend_req_handler.specs.Calling.{call_in}
use Rattle.vhost_frontend_req_handler.specs.Core.{endpoint_of, number_cells, server_in}
use Rattle.vhost_frontend_req_handler.specs.Handling.{HandlesOne}
use Rattle.vhost_frontend_req_handler.specs.declared.call.FrontendSideCall.{FrontendSideCall}
use Rattle.vhost_frontend_req_handler.specs.declared.req_core.FrontendReqCore.{FrontendReqCore}

-- The number of an answer went back, where the request wants it, and the answer is handed on; or a fault stopped it.
pub data Concludes {L H : Type 0} (event : L → Event H → L → Type 0) (request : Request BackendReq) (a : Result ℕ IoError) (old : State L H) (s : Server) : Result ℕ declared.Error → State L H → Server → Type 0 where
  concluded : {result : Result ℕ declared.Error} {new : State L H} {s' : Server} → seen_result result ≡ handed_on a → Replies event old (number_cells s request a) new → s' ≡ s → Concludes event request a old s result new s'
  stopped : {e : declared.Error} {new : State L H} {s' : Server} → Stops event old (number_cells s request a) e new → s' ≡ s → Concludes event request a old s (Err e) new s'

-- a side of the frontend that is never called
abbrev pub uncalled : {H : Type 0} → ⊤ → ReverseCall H → Result ℕ IoError → ⊤ → Type 0
uncalled d c a d' = ⊥

module _ {L H : Type 0} (event : L → Event H → L → Type 0) where
  -- a message was read, and became this call, which is to be answered
  pub record BeginsCall (old : FrontendReqCore L H) (call : FrontendSideCall H) (new : FrontendReqCore L H) : Type 0 where
    pub request : Request BackendReq
    pub is : new.pending ≡ Some request
    pub handles : Option (Vec H Global)
    pub reads : ReadsMessage event backend_request_of backend_allows_handles (endpoint_of old) request handles new.body.value (endpoint_of new)
    pub row : reverse_row_of reads.message.request (server_in old) reads.message ≡ Calls (call_in call) (with_number (server_in old) reads.message)
    pub server : server_in new ≡ server_in old

  -- none was read, or it was refused, and nobody was called
  abbrev pub Refuses : FrontendReqCore L H → declared.Error → FrontendReqCore L H → Type 0
  Refuses old e new = HandlesOne event uncalled (endpoint_of old) (server_in old) tt (Err e) (endpoint_of new) (server_in new) tt

module _ {L H Dev : Type 0} (event : L → Event H → L → Type 0) (gives : Dev → ReverseCall H → Result ℕ IoError → Dev → Type 0) where
  -- A request that was begun, whose call was answered so by a frontend's side while the rest stayed, and whose answer was concluded, is one call of a handler with that side.
  abbrev pub HalvesServe : Type 0
  HalvesServe = (old mid last new : FrontendReqCore L H) (d d' : Dev) (call : FrontendSideCall H) (a : Result ℕ io.IoError) (result : Result ℕ declared.Error) (begun : BeginsCall event old call mid)
      → endpoint_of last ≡ endpoint_of mid → server_in last ≡ server_in mid
      → gives d (call_in call) (seen_io_result a) d' → result_number (seen_io_result a) < 2 ^ 64
      → Concludes event begun.request (seen_io_result a) (endpoint_of last) (server_in last) result (endpoint_of new) (server_in new)
      → HandlesOne event gives (endpoint_of old) (server_in old) d result (endpoint_of new) (server_in new) d'

  -- So is one that was refused, whatever the side.
  abbrev pub HalvesRefuse : Type 0
  HalvesRefuse = (old new : FrontendReqCore L H) (d : Dev) (e : declared.Error) → (server_in old).failed ≡ None → Refuses event old e new
      → HandlesOne event gives (endpoint_of old) (server_in old) d (Err e) (endpoint_of new) (server_in new) d
