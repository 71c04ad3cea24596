-- A handler with what others share.
use Rattle.std.specs.Prelude.{ℕ, Result, ⊤}
use Rattle.vhost_message.specs.declared.error.Error as declared
use Rattle.vhost_protocol.specs.IoError.{IoError}
use Rattle.vhost_protocol.specs.Reverse.{ReverseCall}
use Rattle.vhost_link.specs.Law.{Event}
use Rattle.vhost_frontend_req_handler.specs.declared.req_core.FrontendReqCore.{FrontendReqCore}
use Rattle.vhost_frontend_req_handler.specs.Core.{endpoint_of, server_in}
use Rattle.vhost_frontend_req_handler.specs.Handling.{CallsOnce}

-- any answer: of such a device only its type is known
abbrev pub any_answer : {H : Type 0} → ⊤ → ReverseCall H → Result ℕ IoError → ⊤ → Type 0
any_answer d c a d' = ⊤

-- one call of such a handler
abbrev pub ServesShared : {L H : Type 0} → (L → Event H → L → Type 0) → FrontendReqCore L H → Result ℕ declared.Error → FrontendReqCore L H → Type 0
ServesShared event old result new = CallsOnce event any_answer (endpoint_of old) (server_in old) tt result (endpoint_of new) (server_in new) tt
