-- A step of a handler: a refusal, or a call of the device and what follows from its answer.
use Rattle.std.specs.Prelude.{Bool, false, ◌&&◌, List, [], Result, Ok, Err, is_ok, if◌then◌else◌, ⊤}
use Rattle.vhost_message.specs.declared.heard_req.HeardReq.{HeardReq}
use Rattle.vhost_protocol.specs.DeviceCall.{Call, Answer}
use Rattle.vhost_protocol.specs.Error.{Error}
use Rattle.vhost_protocol.specs.Served.{Served, Silent, Acknowledged, Replied}
use Rattle.vhost_protocol.specs.Session.{Session, ack_on}
use Rattle.vhost_protocol.specs.Split.{Message}
use Rattle.vhost_protocol.specs.Written.{Payload}

-- the handler's answer, what it lets the peer know, and its session from then on
pub record Outcome (H : Type 0) : Type 0 where
  pub answer : Result ⊤ Error
  pub served : Served H
  pub session : Session

-- an error before any call of the device; it may be acknowledged
pub record Refusal (H : Type 0) : Type 0 where
  pub error : Error
  pub served : Served H

-- A refusal leaves device and session as they were. Else the device is called once, and the outcome follows from its answer.
-- For two requests a handle is opened first: what that answered, the channel or why there is none, decides how it goes on.
pub data Step (H B G : Type 0) : Type 0 where
  Refused : Refusal H → Step H B G
  Calls : (c : Call H B G) → (Answer c → Outcome H) → Step H B G
  OpensBackend : H → (Result B Error → Step H B G) → Step H B G
  OpensGpu : H → (Result G Error → Step H B G) → Step H B G

-- tests stand in order: the first that fails refuses
infixl 10 ◌>>=◌ ◌>>◌
-- a test that gives a value, then the rest with it
abbrev pub ◌>>=◌ : {H B G A : Type 0} → Result A (Refusal H) → (A → Step H B G) → Step H B G
(Ok a) >>= next = next a
(Err refusal) >>= next = Refused refusal

-- a test, then the rest
abbrev pub ◌>>◌ : {H B G : Type 0} → Result ⊤ (Refusal H) → Step H B G → Step H B G
(Ok a) >> next = next
(Err refusal) >> next = Refused refusal

-- an acknowledgement, where acknowledgements are on and the message wants one
abbrev pub ack_back : {H : Type 0} → Session → Message HeardReq H → Bool → Served H
ack_back s m agreed = if ack_on s && m.need_reply then Acknowledged agreed else Silent

-- the error, with nothing written
abbrev pub silently : {H : Type 0} → Error → Refusal H
silently e = record { error = e; served = Silent }

-- the error, acknowledged
abbrev pub acknowledged : {H : Type 0} → Session → Message HeardReq H → Error → Refusal H
acknowledged s m e = record { error = e; served = ack_back s m false }

-- the answer without its value
abbrev pub done : {A : Type 0} → Result A Error → Result ⊤ Error
done (Ok a) = Ok tt
done (Err e) = Err e

-- ---- what follows from a device's answer

-- the answer is acknowledged
abbrev pub with_ack : {H A : Type 0} → Session → Message HeardReq H → Result A Error → Outcome H
with_ack s m answer = record { answer = done answer; served = ack_back s m (is_ok answer); session = s }

-- an error in the place of the answer, acknowledged
abbrev pub failed_with : {H : Type 0} → Session → Message HeardReq H → Error → Outcome H
failed_with s m e = record { answer = Err e; served = ack_back s m false; session = s }

-- success, with a reply
abbrev pub replied : {H : Type 0} → Session → Payload → List H → Outcome H
replied s payload handles = record { answer = Ok tt; served = Replied payload handles; session = s }

-- the value is the reply; an error writes nothing
abbrev pub replied_or_silent : {H A : Type 0} → Session → (A → Payload) → Result A Error → Outcome H
replied_or_silent s payload (Ok a) = replied s (payload a) []
replied_or_silent s payload (Err e) = record { answer = Err e; served = Silent; session = s }

-- the answer alone, with nothing written
abbrev pub unwritten : {H A : Type 0} → Session → Result A Error → Outcome H
unwritten s answer = record { answer = done answer; served = Silent; session = s }
