-- The form of a handler, at the reverse channel.
use Rattle.std.specs.Prelude.{ℕ, ◌<◌, ◌^◌, List, Result}
use Rattle.vhost_message.specs.BackendReq.{backend_request_of}
use Rattle.vhost_message.specs.declared.backend_req.BackendReq.{BackendReq}
use Rattle.vhost_message.specs.declared.error.Error as declared
use Rattle.vhost_protocol.specs.IoError.{IoError}
use Rattle.vhost_protocol.specs.Reverse.{ReverseCall, ReverseMeets, Server, backend_allows_handles, result_number}
use Rattle.vhost_link.specs.Law.{Event}
use Rattle.vhost_connection.specs.Talk.{State}
use Rattle.vhost_connection.specs.Serving as serving

-- a device's relation, over answers whose number is one of 64 bits
abbrev pub fitting : {H Dev : Type 0} → (Dev → ReverseCall H → Result ℕ IoError → Dev → Type 0) → Dev → ReverseCall H → Result ℕ IoError → Dev → Type 0
fitting gives d c a d' = gives d c a d' × (result_number a < 2 ^ 64)

-- where a reply was stopped, all stays of what is remembered
abbrev pub kept : BackendReq → Server → Server → Server
kept r before after = after

module _ {L H Dev : Type 0} (event : L → Event H → L → Type 0) (gives : Dev → ReverseCall H → Result ℕ IoError → Dev → Type 0) where
  -- one call of the handler
  abbrev pub HandlesOne : State L H → Server → Dev → Result ℕ declared.Error → State L H → Server → Dev → Type 0
  HandlesOne = serving.HandlesOne event (λ (_ : Server). backend_request_of) backend_allows_handles (λ (t : Server). t.failed) kept (ReverseMeets (fitting gives))

  -- one call, whether or not it is marked as failed
  abbrev pub CallsOnce : State L H → Server → Dev → Result ℕ declared.Error → State L H → Server → Dev → Type 0
  CallsOnce = serving.CallsOnce event (λ (_ : Server). backend_request_of) backend_allows_handles (λ (t : Server). t.failed) kept (ReverseMeets (fitting gives))

  -- so many calls, and their answers behind others
  abbrev pub Runs : State L H → Server → Dev → ℕ → List (Result ℕ declared.Error) → List (Result ℕ declared.Error) → State L H → Server → Dev → Type 0
  Runs = serving.Runs event (λ (_ : Server). backend_request_of) backend_allows_handles (λ (t : Server). t.failed) kept (ReverseMeets (fitting gives))
