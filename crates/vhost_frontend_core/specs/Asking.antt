-- What the half of a frontend's call does that asks.
use Rattle.std.specs.Prelude.{◌≡◌, ℕ, true, false, Result, Ok, Err, ⊤}
use Rattle.vhost_message.specs.declared.error.Error as declared
use Rattle.vhost_message.specs.declared.error.Error.TheVariants.{OutOfMemory}
use Rattle.vhost_message.specs.declared.heard_req.HeardReq.{HeardReq}
use Rattle.vhost_message.specs.HeardReq.{request_number}
use Rattle.vhost_message.specs.MsgHeader.{fields_of}
use Rattle.vhost_protocol.specs.Error.{Error, seen}
use Rattle.vhost_protocol.specs.Written.{Written, written_cells, head_of}
use Rattle.vhost_protocol.specs.FrontendCall.{Frontend}
use Rattle.vhost_protocol.specs.Ask as ask
use Rattle.vhost_protocol.specs.Ask.{Asked, Sends}
use Rattle.vhost_protocol.specs.declared.asked.Awaited.{Awaited}
use Rattle.vhost_protocol.specs.declared.asked.Awaited.TheVariants.{Reply}
use Rattle.vhost_protocol.specs.declared.asked.Shape.{Shape}
use Rattle.vhost_link.specs.Law.{Event}
use Rattle.vhost_connection.specs.Pass.{sends}
use Rattle.vhost_connection.specs.Talk.{State, Serves}
use Rattle.vhost_connection.specs.Hearing.{Fails}
use Rattle.vhost_frontend_core.specs.declared.asked.Sent.{Sent}

-- what a test of the code answered, as a test of the definitions
abbrev pub tested : {A : Type 0} → Result A declared.Error → Result ⊤ Error
tested (Ok a) = Ok tt
tested (Err e) = Err (seen e)

module _ {L H : Type 0} (event : L → Event H → L → Type 0) where
  -- A request went out whole, and this is awaited of it.
  pub record Goes (w : Written HeardReq H) (asked : Awaited) (old : State L H) (sent : Sent) (new : State L H) : Type 0 where
    pub retries : ℕ
    pub serves : Serves event old old.budget (sends (written_cells request_number w) retries) new
    pub header : fields_of sent.request ≡ head_of request_number w
    pub awaits : sent.awaited ≡ asked
    pub list : new.list ≡ true

  -- The same, or the link failed; then what was awaited before still is.
  pub data Tries (w : Written HeardReq H) (asked : Awaited) (old : State L H) (before : Awaited) : Result Sent declared.Error → State L H → Awaited → Type 0 where
    whole : {sent : Sent} {new : State L H} → Goes w asked old sent new → Tries w asked old before (Ok sent) new asked
    broke : {e : declared.Error} {new : State L H} → Fails event old false e new → Tries w asked old before (Err e) new before

  -- The half that asks, by what the call becomes: it was refused and nothing changed; or its message went out, and the session is the new one; or the link failed, and session and what is awaited are as before.
  pub data Asks (asked : Asked H) (old : State L H) (f : Frontend) (before : Awaited) : Result Sent declared.Error → State L H → Frontend → Awaited → Type 0 where
    refuses : {e : declared.Error} → asked ≡ ask.Refuses (seen e) → Asks asked old f before (Err e) old f before
    goes : {w : Written HeardReq H} {awaited : Awaited} {f' : Frontend} {sent : Sent} {new : State L H} → asked ≡ Sends w awaited f' → Goes w awaited old sent new
        → Asks asked old f before (Ok sent) new f' awaited
    fails : {w : Written HeardReq H} {awaited : Awaited} {f' : Frontend} {e : declared.Error} {new : State L H} → asked ≡ Sends w awaited f' → Fails event old false e new
        → Asks asked old f before (Err e) new f before

  -- The same of a call that makes room for its reply once its tests have passed: where there is no memory for it, nothing changed.
  pub data AsksWithRoom (asked : Asked H) (old : State L H) (f : Frontend) (before : Awaited) : Result Sent declared.Error → State L H → Frontend → Awaited → Type 0 where
    roomy : {result : Result Sent declared.Error} {new : State L H} {f' : Frontend} {after : Awaited} → Asks asked old f before result new f' after → AsksWithRoom asked old f before result new f' after
    no_room : {w : Written HeardReq H} {shape : Shape} {f' : Frontend} → asked ≡ Sends w (Reply shape) f' → AsksWithRoom asked old f before (Err OutOfMemory) old f before
