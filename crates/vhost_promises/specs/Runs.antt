-- Whole runs, as a caller of a handler derives them.
use Rattle.std.specs.Prelude.{◌≡◌, ℕ, Bool, true, false, List, length, Result, Ok, Err, ⊤, ◌⊎◌}
use Rattle.vhost_message.specs.BackendReq.{backend_request_of}
use Rattle.vhost_message.specs.declared.cause.IoCause.{IoCause}
use Rattle.vhost_message.specs.declared.error.Error.{Error}
use Rattle.vhost_message.specs.declared.error.Error.TheVariants.{SocketBroken, OutOfMemory}
use Rattle.vhost_protocol.specs.Codes.{allows_handles}
use Rattle.vhost_protocol.specs.DeviceCall.{Call, Answer}
use Rattle.vhost_protocol.specs.Error as protocol
use Rattle.vhost_protocol.specs.Handler.{MeetsRow}
use Rattle.vhost_protocol.specs.IoError.{IoError}
use Rattle.vhost_protocol.specs.Reverse.{ReverseCall, ReverseMeets, Server, backend_allows_handles}
use Rattle.vhost_protocol.specs.Session.{Session, heard_in}
use Rattle.vhost_link.specs.Law.{Event}
use Rattle.vhost_connection.specs.Talk.{State}
use Rattle.vhost_connection.specs.Serving.{WholeRun}
use Rattle.vhost_frontend_req_handler.specs.Handling.{fitting, kept}
use Rattle.vhost_promises.specs.Calls.{is_fault}
use Rattle.vhost_backend_req_handler.specs.Serving.{kept_unsent}
use Rattle.vhost_backend_req_handler.specs.Serving as served

-- an error that a link or want of memory may bring
abbrev pub of_link : Error → Bool
of_link e = is_fault (protocol.seen e)

abbrev pub answer_of_link : {A : Type 0} → Result A Error → Bool
answer_of_link (Ok a) = false
answer_of_link (Err e) = of_link e

-- so many answers of a whole run of the reverse channel's table
abbrev pub WholeBack : {L H Dev : Type 0} → (L → Event H → L → Type 0) → (Dev → ReverseCall H → Result ℕ IoError → Dev → Type 0)
    → State L H → Server → Dev → ℕ → List (Result ℕ Error) → State L H → Server → Dev → Type 0
WholeBack event gives old s d n answers new s' d' = (length answers ≡ n)
    × WholeRun event (λ (_ : Server). backend_request_of) backend_allows_handles (λ (t : Server). t.failed) kept (ReverseMeets (fitting gives)) old s d answers new s' d'

-- so many answers of a whole run of the table of a frontend's requests
abbrev pub WholeServed : {L H B G Dev : Type 0} → (L → Event H → L → Type 0) → (Dev → (c : Call H B G) → Answer c → Dev → Type 0) → (H → Result B protocol.Error → Type 0) → (H → Result G protocol.Error → Type 0)
    → State L H → Session → Dev → ℕ → List (Result ⊤ Error) → State L H → Session → Dev → Type 0
WholeServed event gives opens_backend opens_gpu old s d n answers new s' d' = (length answers ≡ n)
    × WholeRun event heard_in allows_handles (λ (t : Session). t.failed) kept_unsent (MeetsRow (served.fitting gives) opens_backend opens_gpu) old s d answers new s' d'

-- One call of a handler whose endpoint is broken: the error says why, and nothing else changed but that the list of handles is there; or that was away, and no memory for another was found.
abbrev pub Unserved : {L H S Dev A : Type 0} → State L H → S → Dev → IoCause → Result A Error → State L H → S → Dev → Type 0
Unserved old s d c result new s' d' =
    (((result ≡ Err (SocketBroken c)) × (new ≡ record old { list = true; faulted = false })) ⊎ ((old.list ≡ false) × (result ≡ Err OutOfMemory) × (new ≡ record old { faulted = false }))) × (s' ≡ s) × (d' ≡ d)
