-- What a session does with a device it does with any answer of it.
use Rattle.std.proofs.Common.{List, Result, refl}
use Rattle.std.specs.Prelude.{⊤}
use Rattle.vhost_message.specs.declared.heard_req.HeardReq.{HeardReq}
use Rattle.vhost_protocol.specs.DeviceCall.{Call, Answer}
use Rattle.vhost_protocol.specs.Error.{Error}
use Rattle.vhost_protocol.specs.Handler.{Follows, MeetsRow}
use Rattle.vhost_protocol.specs.Session.{Session}
use Rattle.vhost_protocol.specs.Split.{Message}
use Rattle.vhost_protocol.specs.Step.{Outcome, Step, Refused, Calls, OpensBackend, OpensGpu}
use Rattle.vhost_protocol.specs.Stream.{Cell}
use Rattle.vhost_backend_req_handler.specs.Serving.{fitting}
use Rattle.vhost_backend_req_handler.specs.Sharing.{any_answer}

-- of a device, nothing is seen
pub unseen : {Dev : Type 0} → Dev → ⊤
unseen d = tt

module _ {H B G Dev : Type 0} (gives : Dev → (c : Call H B G) → Answer c → Dev → Type 0) (opens_backend : H → Result B Error → Type 0) (opens_gpu : H → Result G Error → Type 0) where
  -- a row
  follows-any : (s : Session) (d d' : Dev) (o : Outcome H) (step : Step H B G) → Follows (fitting gives) opens_backend opens_gpu s d step o d' → Follows (fitting any_answer) opens_backend opens_gpu s tt step o tt
  follows-any s d d' o (Refused r) p = (p.0, refl)
  follows-any s d d' o (Calls c next) (a, gave, is) = (a, (tt, gave.1), is)
  follows-any s d d' o (OpensBackend h next) (opened, by, p) = (opened, by, follows-any s d d' o (next opened) p)
  follows-any s d d' o (OpensGpu h next) (opened, by, p) = (opened, by, follows-any s d d' o (next opened) p)

  pub meets-any : (s s' : Session) (d d' : Dev) (m : Message HeardReq H) (answer : Result ⊤ Error) (written : List (Cell H)) → MeetsRow (fitting gives) opens_backend opens_gpu s d m answer written s' d'
      → MeetsRow (fitting any_answer) opens_backend opens_gpu s (unseen d) m answer written s' (unseen d')
  meets-any s s' d d' m answer written p = (p.0, (p.1.0, follows-any s d d' p.1.0 _ p.1.1, p.1.2), p.2, p.3, p.4)
