-- The halves of a call of the channel: one sends, the other takes the answer.
use Rattle.std.specs.Prelude.{◌≡◌, length, ⊤, ℕ, Bool, false, Option, Some, None, Result, Ok, Err, if◌then◌else◌}
use Rattle.vhost_message.specs.BackendReq.{backend_request_number}
use Rattle.vhost_message.specs.declared.backend_req.BackendReq.{BackendReq}
use Rattle.vhost_message.specs.declared.header.VhostUserMsgHeader.{VhostUserMsgHeader}
use Rattle.vhost_message.specs.declared.error.Error.{Error}
use Rattle.vhost_message.specs.declared.io_error.IoError.{IoError}
use Rattle.vhost_message.specs.declared.io_error.IoError.TheVariants.{Of}
use Rattle.vhost_message.specs.MsgHeader.{fields_of}
use Rattle.vhost_message.specs.Records.{mmap_text}
use Rattle.vhost_protocol.specs.IoError.{seen_io}
use Rattle.vhost_protocol.specs.JoinedReverse as input
use Rattle.vhost_protocol.specs.JoinedReverse.{ReverseInput}
use Rattle.vhost_protocol.specs.Reverse as reverse
use Rattle.vhost_protocol.specs.Reverse.{ReverseAsked, Refuses, Sends, reverse_ask}
use Rattle.vhost_protocol.specs.Written.{Written}
use Rattle.vhost_link.specs.Law.{Event}
use Rattle.vhost_connection.specs.Talk.{State}
use Rattle.vhost_connection.specs.Hearing.{Fails}
use Rattle.vhost_connection.specs.Asking.{GoesOut}
use Rattle.vhost_backend_req.specs.Asking.{RecvsNumber}
use Rattle.vhost_backend_req.specs.Channel.{Channel, backend_of}
use Rattle.vhost_backend_req.specs.declared.call.ReverseCall as code
use Rattle.vhost_backend_req.specs.declared.call.ReverseCall.TheVariants as call
use Rattle.vhost_backend_req.specs.declared.call.Asked.{Asked}
use Rattle.vhost_backend_req.specs.declared.call.Asked.TheVariants.{Set, Sent}

-- the header of a request
abbrev pub Head : Type 0
Head = VhostUserMsgHeader BackendReq

module _ {L H : Type 0} (event : L → Event H → L → Type 0) where
  -- The half that asks, by what the call becomes: it was refused, and nothing changed; or its message did not go out whole; or it did, and its header is known where an answer is awaited.
  pub data AsksHalf (asked : ReverseAsked H) (old : State L H) : Result (Option Head) IoError → State L H → Type 0 where
    refuses : {e : IoError} → asked ≡ Refuses (seen_io e) → AsksHalf asked old (Err e) old
    fails : {w : Written BackendReq H} {awaited : Bool} {e : Error} {new : State L H} → asked ≡ Sends w awaited → Fails event old false e new → AsksHalf asked old (Err (Of e)) new
    goes : {w : Written BackendReq H} {awaited : Bool} (sent : Head) {new : State L H} → asked ≡ Sends w awaited → GoesOut event backend_request_number w old sent new
        → AsksHalf asked old (Ok (if awaited then Some sent else None)) new

  -- The half that takes the answer: where none is awaited, nothing is read for it.
  abbrev pub TakesHalf : Option Head → State L H → Result ℕ IoError → State L H → Type 0
  TakesHalf None old result new = (result ≡ Ok 0) × (new ≡ old)
  TakesHalf (Some sent) old result new = RecvsNumber event (fields_of sent) old result new

  -- nothing but the endpoint changes
  abbrev pub AsksHalfFor : ReverseAsked H → Channel L H → Result (Option Head) IoError → Channel L H → Type 0
  AsksHalfFor asked old result new = AsksHalf asked old.endpoint result new.endpoint × (new ≡ record old { endpoint = new.endpoint })

-- ---- calls that are values

-- a call of the code
abbrev pub input_of : {H : Type 0} → code.ReverseCall H → ReverseInput H
input_of (call.SetReplyAck on) = input.SetReplyAck on
input_of (call.SetSharedObject on) = input.SetSharedObject on
input_of (call.SetShmem on) = input.SetShmem on
input_of (call.SetConfigChange on) = input.SetConfigChange on
input_of call.HandleConfigChange = input.Asks reverse.HandleConfigChange
input_of (call.SharedObjectAdd name) = input.Asks (reverse.SharedObjectAdd name)
input_of (call.SharedObjectRemove name) = input.Asks (reverse.SharedObjectRemove name)
input_of (call.SharedObjectLookup name h) = input.Asks (reverse.SharedObjectLookup name h)
input_of (call.ShmemMap mapping h) = input.Asks (reverse.ShmemMap mapping h)
input_of (call.ShmemUnmap mapping) = input.Asks (reverse.ShmemUnmap mapping)

-- what a call is made of has the sizes of its types
abbrev pub IsProper : {H : Type 0} → ReverseInput H → Type 0
IsProper (input.Asks (reverse.SharedObjectAdd name)) = length name.uuid ≡ 16
IsProper (input.Asks (reverse.SharedObjectRemove name)) = length name.uuid ≡ 16
IsProper (input.Asks (reverse.SharedObjectLookup name h)) = length name.uuid ≡ 16
IsProper (input.Asks (reverse.ShmemMap mapping h)) = length (mmap_text mapping) ≡ 40
IsProper (input.Asks (reverse.ShmemUnmap mapping)) = length (mmap_text mapping) ≡ 40
IsProper _ = ⊤

-- the channel once a flag was set
abbrev pub with_flag : {L H : Type 0} → ReverseInput H → Channel L H → Channel L H
with_flag (input.SetReplyAck on) c = record c { reply_ack = on }
with_flag (input.SetSharedObject on) c = record c { shared_object = on }
with_flag (input.SetShmem on) c = record c { shmem = on }
with_flag (input.SetConfigChange on) c = record c { config_change = on }
with_flag (input.Asks call) c = c

-- The half that asks of a value: a flag is set, and a call is asked by its half.
abbrev pub AsksValue : {L H : Type 0} → (L → Event H → L → Type 0) → ReverseInput H → Channel L H → Result Asked IoError → Channel L H → Type 0
AsksValue event (input.Asks call) old (Ok (Sent sent)) new = AsksHalfFor event (reverse_ask (backend_of old) call) old (Ok sent) new
AsksValue event (input.Asks call) old (Err e) new = AsksHalfFor event (reverse_ask (backend_of old) call) old (Err e) new
AsksValue event (input.Asks call) old (Ok Set) new = ⊥
AsksValue event flag old result new = (result ≡ Ok Set) × (new ≡ with_flag flag old)
