-- The handler of a frontend's requests, over a device.
use Rattle.std.specs.Prelude.{◌≡◌, List, Result, Err, ⊤}
use Rattle.vhost_message.specs.declared.heard_req.HeardReq.{HeardReq}
use Rattle.vhost_message.specs.HeardReq.{request_number}
use Rattle.vhost_protocol.specs.Codes.{allows_handles}
use Rattle.vhost_protocol.specs.DeviceCall.{Call, Answer}
use Rattle.vhost_protocol.specs.Error.{Error}
use Rattle.vhost_protocol.specs.Row.{row}
use Rattle.vhost_protocol.specs.Run.{Serves, Run}
use Rattle.vhost_protocol.specs.Served.{reply, cells_of}
use Rattle.vhost_protocol.specs.Session.{Session, heard_in}
use Rattle.vhost_protocol.specs.Settled.{settled}
use Rattle.vhost_protocol.specs.Split.{Message}
use Rattle.vhost_protocol.specs.Step.{Outcome, Step, Refused, Calls, OpensBackend, OpensGpu}
use Rattle.vhost_protocol.specs.Stream.{Cell, Item}

-- A device is a relation of old state, call, answer and new state. Two more relations say what opening a handle answers: the channel, or why there is none.
module _ {H B G Dev : Type 0} (gives : Dev → (c : Call H B G) → Answer c → Dev → Type 0)
    (opens_backend : H → Result B Error → Type 0) (opens_gpu : H → Result G Error → Type 0) where
  -- a refusal changes nothing; a call moves the device by its own relation, once
  abbrev pub Follows : Session → Dev → Step H B G → Outcome H → Dev → Type 0
  Follows s d (Refused r) o d' = (o ≡ record { answer = Err r.error; served = r.served; session = s }) × (d' ≡ d)
  Follows s d (Calls c next) o d' = (a : Answer c) × gives d c a d' × (o ≡ next a)
  Follows s d (OpensBackend h next) o d' = (opened : Result B Error) × opens_backend h opened × Follows s d (next opened) o d'
  Follows s d (OpensGpu h next) o d' = (opened : Result G Error) × opens_gpu h opened × Follows s d (next opened) o d'

  -- the row of a message, and what becomes of its silence
  abbrev pub Meets : Session → Dev → Message HeardReq H → Outcome H → Dev → Type 0
  Meets s d m o d' = (told : Outcome H) × Follows s d (row s m) told d' × (o ≡ settled s m told)

  -- the same by its parts, with the text of what is written
  abbrev pub MeetsRow : Session → Dev → Message HeardReq H → Result ⊤ Error → List (Cell H) → Session → Dev → Type 0
  MeetsRow s d m answer written s' d' = (o : Outcome H) × Meets s d m o d'
      × (answer ≡ o.answer) × (written ≡ cells_of request_number (reply m.request o.served)) × (s' ≡ o.session)

  -- one call of `handle_request`
  abbrev pub HandlesRequest : Session → Dev → List (Item H) → Result ⊤ Error → List (Cell H) → Session → Dev → Type 0
  HandlesRequest = Serves heard_in allows_handles (λ s. s.failed) MeetsRow

  -- many calls of it
  abbrev pub HandlesRequests : Session → Dev → List (Result ⊤ Error) → List (Item H) → List (Cell H) → Session → Dev → Type 0
  HandlesRequests = Run heard_in allows_handles (λ s. s.failed) MeetsRow
