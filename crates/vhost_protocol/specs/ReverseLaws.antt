-- Laws of the reverse channel.
use Rattle.std.specs.Prelude.{◌≡◌, ℕ, ◌^◌, ◌<◌, Bool, true, false, List, [], ◌++◌, Some, Result, ⊤}
use Rattle.vhost_message.specs.BackendReq.{backend_request_number}
use Rattle.vhost_message.specs.Bits.{has_bit}
use Rattle.vhost_message.specs.declared.backend_req.BackendReq.{BackendReq}
use Rattle.vhost_message.specs.Header.{Header}
use Rattle.vhost_protocol.specs.IoError.{IoError}
use Rattle.vhost_protocol.specs.Joined.{read_as}
use Rattle.vhost_protocol.specs.Reverse.{ReverseCall, Backend, ReverseAsked, Refuses, Sends, reverse_ask, reverse_answer, reverse_take, of_number, Server, ReverseOutcome, ReverseStep, Refused, Calls, reverse_row}
use Rattle.vhost_protocol.specs.Served.{Replied, reply, cells_of}
use Rattle.vhost_protocol.specs.Stream.{Cell}
use Rattle.vhost_protocol.specs.Written.{U64}

-- the caller's answer is known from what came
abbrev pub IsAnswered : {H : Type 0} → Bool → ReverseOutcome H → Type 0
IsAnswered awaited o = (result : Result ℕ IoError) × (reverse_answer awaited o.served ≡ Some result)

-- whatever the device answers
abbrev pub AllAnswered : {H : Type 0} → Bool → ReverseStep H → Type 0
AllAnswered awaited (Refused o) = IsAnswered awaited o
AllAnswered awaited (Calls c next) = (a : Result ℕ IoError) → IsAnswered awaited (next a)

-- whatever becomes of a call
abbrev pub StaysAnswered : {H : Type 0} → Server → ReverseAsked H → Type 0
StaysAnswered s (Refuses e) = ⊤
StaysAnswered s (Sends w awaited) = AllAnswered awaited (reverse_row s (read_as w))

-- Where both sides have the same flag for acknowledgements, the caller's answer is known after each call.
abbrev pub ReverseAnswers : (H : Type 0) → Type 0
ReverseAnswers H = (b : Backend) (s : Server) (call : ReverseCall H) → b.reply_ack ≡ s.reply_ack → StaysAnswered s (reverse_ask b call)

-- a number that the server sent back is taken as the answer that it stands for, and what follows it is left
abbrev pub ReverseTakes : (H : Type 0) → Type 0
ReverseTakes H = (r : BackendReq) (sent : Header) → sent.code ≡ backend_request_number r → has_bit sent.flags 2 ≡ false
    → (n : ℕ) → n < 2 ^ 64 → (rest : List (Cell H))
    → reverse_take true sent (cells_of backend_request_number (reply r (Replied (U64 n) [])) ++ rest) ≡ (of_number n, rest)
