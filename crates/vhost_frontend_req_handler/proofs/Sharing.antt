-- What a handler does with a device it does with any answer of it.
use Rattle.std.proofs.Common.{ℕ, List, Result, refl}
use Rattle.std.specs.Prelude.{⊤}
use Rattle.vhost_message.specs.declared.backend_req.BackendReq.{BackendReq}
use Rattle.vhost_protocol.specs.Error.{Error}
use Rattle.vhost_protocol.specs.IoError.{IoError}
use Rattle.vhost_protocol.specs.Reverse.{ReverseCall, ReverseFollows, ReverseMeets, ReverseOutcome, ReverseStep, Refused, Calls, Server}
use Rattle.vhost_protocol.specs.Split.{Message}
use Rattle.vhost_protocol.specs.Stream.{Cell}
use Rattle.vhost_frontend_req_handler.specs.Handling.{fitting}
use Rattle.vhost_frontend_req_handler.specs.Sharing.{any_answer}

-- of a device, nothing is seen
pub unseen : {Dev : Type 0} → Dev → ⊤
unseen d = tt

module _ {H Dev : Type 0} (gives : Dev → ReverseCall H → Result ℕ IoError → Dev → Type 0) where
  follows-any : (d d' : Dev) (o : ReverseOutcome H) (step : ReverseStep H) → ReverseFollows (fitting gives) d step o d' → ReverseFollows (fitting any_answer) tt step o tt
  follows-any d d' o (Refused r) p = (p.0, refl)
  follows-any d d' o (Calls c next) (a, gave, is) = (a, (tt, gave.1), is)

  pub meets-any : (s s' : Server) (d d' : Dev) (m : Message BackendReq H) (answer : Result ℕ Error) (written : List (Cell H)) → ReverseMeets (fitting gives) s d m answer written s' d'
      → ReverseMeets (fitting any_answer) s (unseen d) m answer written s' (unseen d')
  meets-any s s' d d' m answer written p = (p.0, follows-any d d' p.0 _ p.1, p.2, p.3, p.4)
