-- Serving a request in two halves.
use Rattle.std.specs.Prelude.{◌≡◌, List, Some, None, Result, Err, ⊤}
use Rattle.vhost_message.specs.declared.error.Error as declared
use Rattle.vhost_message.specs.declared.heard_req.HeardReq.{HeardReq}
use Rattle.vhost_message.specs.declared.records.memory.VhostUserMemoryRegion.{VhostUserMemoryRegion}
use Rattle.vhost_protocol.specs.Codes.{allows_handles}
use Rattle.vhost_protocol.specs.DeviceCall.{Call, Answer}
use Rattle.vhost_protocol.specs.Error.{Error}
use Rattle.vhost_protocol.specs.Row.{row_of}
use Rattle.vhost_protocol.specs.Session.{Session, heard_in}
use Rattle.vhost_protocol.specs.Split.{Message}
use Rattle.vhost_protocol.specs.Step.{Step}
use Rattle.vhost_link.specs.Law.{Event}
use Rattle.vhost_connection.specs.Requests.{ReadsMessage}
use Rattle.vhost_connection.specs.Talk.{State}
use Rattle.vhost_backend_req_handler_core.specs.Beginning.{step_of}
use Rattle.vhost_backend_req_handler_core.specs.Concluding.{Beside, concluded, regions_beside, regions_for, then_of}
use Rattle.vhost_backend_req_handler_core.specs.Fits.{Makes}
use Rattle.vhost_backend_req_handler_core.specs.Settling.{Settles, settled_by}
use Rattle.vhost_backend_req_handler_core.specs.declared.answer.DeviceAnswer.{DeviceAnswer}
use Rattle.vhost_backend_req_handler_core.specs.declared.answer.Then.{Then}
use Rattle.vhost_backend_req_handler_core.specs.declared.call.DeviceCall.{DeviceCall}
use Rattle.vhost_backend_req_handler.specs.Calling.{Called, beside}
use Rattle.vhost_backend_req_handler.specs.Core.{endpoint_of, session_in}
use Rattle.vhost_backend_req_handler.specs.Serving.{Answers, Finishes, HandlesOne}
use Rattle.vhost_backend_req_handler.specs.Sized.{AnswerSized}
use Rattle.vhost_backend_req_handler.specs.declared.halves.Pending.{Pending}
use Rattle.vhost_backend_req_handler.specs.declared.service.Service.{Service}
use Rattle.vhost_backend_req_handler.specs.declared.session_core.SessionCore.{SessionCore}

-- what lies beside a call whose answer is told like this, and beside that answer
abbrev pub beside_then : Then → Service → Beside
beside_then next s = beside (regions_for next s.regions) s.shmem

module _ {H : Type 0} (B G : Type 0) where
  -- a device that is never called, and channels that are never opened
  abbrev pub uncalled : ⊤ → (c : Call H B G) → Answer c → ⊤ → Type 0
  uncalled d c a d' = ⊥

  abbrev pub unopened : {C : Type 0} → H → Result C Error → Type 0
  unopened h opened = ⊥

  -- A message becomes a call of the device: its row makes this call, and its answer is told like this. The regions whose bases would be the reply are kept.
  pub record Prepares (s : Session) (m : Message HeardReq H) (t : Then) (rs : List VhostUserMemoryRegion) : Type 0 where
    pub call : DeviceCall
    pub row : row_of {B = B} {G = G} m.request s m ≡ step_of s m call
    pub makes : Makes (step_of {B = B} {G = G} s m call)
    pub next : t ≡ then_of call
    pub regions : regions_for t rs ≡ regions_beside call

  module _ {L : Type 0} (event : L → Event H → L → Type 0) where
    -- a request was refused, and no device was called
    abbrev pub Denies : Message HeardReq H → Step H B G → State L H → Session → declared.Error → State L H → Session → Type 0
    Denies m step old s e new s' = Answers event uncalled unopened unopened m step old s tt (Err e) new s' tt

    -- a message was read, and became a call that is to be answered
    pub record Begins (old new : SessionCore L H) : Type 0 where
      pub pending : Pending H
      pub is : new.pending ≡ Some pending
      pub reads : ReadsMessage event (heard_in (session_in old)) allows_handles (endpoint_of old) pending.request pending.handles new.body.value (endpoint_of new)
      pub prepares : Prepares (session_in old) reads.message pending.then new.service.regions
      pub settles : Settles (session_in old) reads.message pending.unanswered
      pub session : session_in new ≡ session_in old

    -- none was read, or it was refused, and no device was called
    abbrev pub Refuses : SessionCore L H → declared.Error → SessionCore L H → Type 0
    Refuses old e new = HandlesOne event uncalled unopened unopened (endpoint_of old) (session_in old) tt (Err e) (endpoint_of new) (session_in new) tt

module _ {L H B G Dev : Type 0} (event : L → Event H → L → Type 0) (gives : Dev → (c : Call H B G) → Answer c → Dev → Type 0)
    (opens_backend : H → Result B Error → Type 0) (opens_gpu : H → Result G Error → Type 0) where
  -- A request that was begun, whose call this device answered so while the session stayed, and whose answer was concluded, is one call of a handler with that device.
  abbrev pub HalvesServe : Type 0
  HalvesServe = (old mid last new : SessionCore L H) (d d' : Dev) (a : DeviceAnswer H) (result : Result ⊤ declared.Error) (begun : Begins B G event old mid)
      → endpoint_of last ≡ endpoint_of mid → session_in last ≡ session_in mid → last.service.regions ≡ mid.service.regions
      → Called gives opens_backend opens_gpu d (beside_then begun.pending.then last.service) (row_of begun.reads.message.request (session_in old) begun.reads.message) (Some a) d'
      → AnswerSized last.service.shmem a
      → Finishes event begun.pending.request.code (settled_by begun.pending.unanswered (concluded (session_in last) begun.pending.request.need_reply (beside_then begun.pending.then last.service) begun.pending.then a))
      (endpoint_of last) (session_in last) result (endpoint_of new) (session_in new)
      → HandlesOne event gives opens_backend opens_gpu (endpoint_of old) (session_in old) d result (endpoint_of new) (session_in new) d'

  -- So is one that was refused, whatever the device.
  abbrev pub HalvesRefuse : Type 0
  HalvesRefuse = (old new : SessionCore L H) (d : Dev) (e : declared.Error) → (session_in old).failed ≡ None → Refuses B G event old e new
      → HandlesOne event gives opens_backend opens_gpu (endpoint_of old) (session_in old) d (Err e) (endpoint_of new) (session_in new) d
