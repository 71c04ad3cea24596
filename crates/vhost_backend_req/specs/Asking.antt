-- What a call of the channel does.
use Rattle.std.specs.Prelude.{◌≡◌, ℕ, Bool, true, false, Result, Ok, Err}
use Rattle.vhost_message.specs.BackendReq.{backend_request_number}
use Rattle.vhost_message.specs.declared.backend_req.BackendReq.{BackendReq}
use Rattle.vhost_message.specs.declared.header.VhostUserMsgHeader.{VhostUserMsgHeader}
use Rattle.vhost_message.specs.declared.error.Error.{Error}
use Rattle.vhost_message.specs.declared.error.Error.TheVariants.{FrontendInternalError}
use Rattle.vhost_message.specs.declared.io_error.IoError.{IoError}
use Rattle.vhost_message.specs.declared.io_error.IoError.TheVariants.{Of}
use Rattle.vhost_message.specs.Header.{Header}
use Rattle.vhost_message.specs.MsgHeader.{fields_of}
use Rattle.vhost_protocol.specs.IoError.{seen_io, seen_io_result}
use Rattle.vhost_protocol.specs.Reverse.{ReverseCall, ReverseAsked, Refuses, Sends, reverse_ask, reverse_take}
use Rattle.vhost_protocol.specs.Written.{Written}
use Rattle.vhost_link.specs.Law.{Event}
use Rattle.vhost_connection.specs.Talk.{State}
use Rattle.vhost_connection.specs.Hearing.{HearsReply, Fails}
use Rattle.vhost_connection.specs.Asking.{GoesOut}
use Rattle.vhost_backend_req.specs.Channel.{Channel, backend_of}

-- a reply came with a number and without a handle: 0, or another, which is a refusal
abbrev pub says_number : Result ℕ IoError → Bool
says_number (Ok n) = true
says_number (Err (Of FrontendInternalError)) = true
says_number _ = false

module _ {L H : Type 0} (event : L → Event H → L → Type 0) where
  -- A number is received: the answer is that of what came, and where that was a number the list of handles is there again; or the link failed, and the endpoint is broken.
  pub data RecvsNumber (sent : Header) (old : State L H) : Result ℕ IoError → State L H → Type 0 where
    heard : {result : Result ℕ IoError} {new : State L H} → HearsReply event (reverse_take true sent) old (seen_io_result result) new → (says_number result ≡ true → new.list ≡ true) → RecvsNumber sent old result new
    stopped : {e : Error} {new : State L H} → Fails event old true e new → RecvsNumber sent old (Err (Of e)) new

  -- The answer is taken: where none is awaited nothing is read for it.
  abbrev pub Takes : (awaited : Bool) → Header → State L H → Result ℕ IoError → State L H → Type 0
  Takes false sent old result new = (result ≡ Ok 0) × (new ≡ old)
  Takes true sent old result new = RecvsNumber sent old result new

  -- By what the call becomes: it was refused, and nothing changed; or its message did not go out whole; or it did, and the answer was taken.
  pub data Asks (asked : ReverseAsked H) (old : State L H) : Result ℕ IoError → State L H → Type 0 where
    refused : {e : IoError} → asked ≡ Refuses (seen_io e) → Asks asked old (Err e) old
    unsent : {w : Written BackendReq H} {awaited : Bool} {e : Error} {new : State L H} → asked ≡ Sends w awaited → Fails event old false e new → Asks asked old (Err (Of e)) new
    asked_for : {w : Written BackendReq H} {awaited : Bool} {sent : VhostUserMsgHeader BackendReq} {mid new : State L H} {result : Result ℕ IoError} → asked ≡ Sends w awaited
        → GoesOut event backend_request_number w old sent mid → Takes awaited (fields_of sent) mid result new → Asks asked old result new

  -- nothing but the endpoint changes
  abbrev pub AsksFor : ReverseAsked H → Channel L H → Result ℕ IoError → Channel L H → Type 0
  AsksFor asked old result new = Asks asked old.endpoint result new.endpoint × (new ≡ record old { endpoint = new.endpoint })

  -- a call
  abbrev pub AsksCall : ReverseCall H → Channel L H → Result ℕ IoError → Channel L H → Type 0
  AsksCall call old result new = AsksFor (reverse_ask (backend_of old) call) old result new
