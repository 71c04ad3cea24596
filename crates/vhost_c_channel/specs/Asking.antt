-- What the calls of a device's session do.
use Rattle.std.specs.Prelude.{◌≡◌, ◌<◌, ◌^◌, ℕ, ℤ, Bool, true, false, List, [], ◌++◌, Option, Some, None, Result, Ok, Err, ⊤, is_some}
use Rattle.vhost_message.specs.BackendReq.{backend_request_number}
use Rattle.vhost_message.specs.Header.{header_of}
use Rattle.vhost_message.specs.MsgHeader.{fields_of}
use Rattle.vhost_message.specs.declared.backend_req.BackendReq.{BackendReq}
use Rattle.vhost_message.specs.declared.error.Error as declared
use Rattle.vhost_message.specs.declared.error.Error.TheVariants.{OutOfMemory, InvalidMessage, InactiveOperation}
use Rattle.vhost_message.specs.declared.flags.features.VhostUserProtocolFeatures.{VhostUserProtocolFeatures}
use Rattle.vhost_message.specs.declared.header.VhostUserMsgHeader.{VhostUserMsgHeader}
use Rattle.vhost_message.specs.declared.io_error.IoError as io
use Rattle.vhost_message.specs.declared.io_error.IoError.TheVariants.{Of}
use Rattle.vhost_message.specs.declared.protocol_bit.TheConstants as bit
use Rattle.vhost_protocol.specs.IoError.{seen_io, seen_io_result}
use Rattle.vhost_protocol.specs.JoinedReverse as input
use Rattle.vhost_protocol.specs.JoinedReverse.{ReverseInput}
use Rattle.vhost_protocol.specs.Reverse.{ReverseCall, ShmemMap, ShmemUnmap, HandleConfigChange, Backend, Sends, Refuses, reverse_ask, reverse_take}
use Rattle.vhost_protocol.specs.Stream.{Cell, has_some}
use Rattle.vhost_protocol.specs.Written.{Written, written_cells, head_of}
use Rattle.vhost_link.specs.Ends.{Ends}
use Rattle.vhost_link.specs.Mem.{event}
use Rattle.vhost_link.specs.declared.plain.PlainHandle.{PlainHandle}
use Rattle.vhost_connection.specs.Hearing.{Fails}
use Rattle.vhost_connection.specs.Memory.{stream}
use Rattle.vhost_connection.specs.Talk.{State}
use Rattle.vhost_backend_req.specs.Channel.{channel, backend_of}
use Rattle.vhost_backend_req.specs.Halves.{with_flag}
use Rattle.vhost_c_common.specs.Held.{Gets, HandsLoose, HoldsNone}
use Rattle.vhost_c_common.specs.Incoming.{missing_in}
use Rattle.vhost_c_common.specs.View as session
use Rattle.vhost_c_common.specs.View.{End, View, IsEmpty, StaysSound, bare, unsent, view_of}
use Rattle.vhost_c_common.specs.declared.incoming.Incoming.{Incoming}
use Rattle.vhost_c_common.specs.declared.refusal.Refusal.{Refusal}
use Rattle.vhost_c_common.specs.declared.refusal.Refusal.TheVariants.{NotTaken, NothingAsked, NotYet, Protocol}
use Rattle.vhost_c_channel.specs.declared.asking.Channel.{Channel}
use Rattle.vhost_c_channel.specs.declared.asking.Feature.{Feature}
use Rattle.vhost_c_channel.specs.declared.asking.Feature.TheVariants as feature

-- ---- a session

-- the header of a request
abbrev pub Head : Type 0
Head = VhostUserMsgHeader BackendReq

-- its end of the connection
abbrev pub endpoint_of : Channel → State Ends PlainHandle
endpoint_of s = (channel s.channel).endpoint

-- what is to be sent: bytes, each with the descriptors that go with it
abbrev pub queued : Channel → List (Cell PlainHandle)
queued s = s.outgoing.link.pending ++ (endpoint_of s).link.sent

-- what came, and was not taken
abbrev pub arrived : Channel → List (Cell PlainHandle)
arrived s = stream (endpoint_of s)

-- what it remembers
abbrev pub remembers : Channel → Backend
remembers s = backend_of (channel s.channel)

-- it, as the contracts of all sessions see one: with what it remembers, and the call whose reply is to be taken
abbrev pub view : Channel → View (Backend × Option (Option Head))
view s = view_of s.outgoing (endpoint_of s) s.incoming (remembers s, s.asked)

-- how many bytes can be told to be missing of a reply: none where none is awaited
abbrev pub missing_for : Option (Option Head) → Incoming → ℕ
missing_for (Some (Some head)) i = missing_in i
missing_for _ i = 0

abbrev pub missing_of : Channel → ℕ
missing_of s = missing_for s.asked s.incoming

-- A new session: it is sound and empty, nothing was agreed on, nothing is asked, no descriptor is held.
pub record IsNew (s : Channel) : Type 0 where
  pub empty : IsEmpty (view s)
  pub asked : s.asked ≡ None
  pub memory : remembers s ≡ record { reply_ack = false; shared_object = false; shmem = false; config_change = false; failed = None }
  pub held : HoldsNone s.held

-- ---- what was agreed on

-- a flag of the channel
abbrev pub flag_in : Feature → Bool → ReverseInput PlainHandle
flag_in feature.ReplyAck on = input.SetReplyAck on
flag_in feature.ConfigChange on = input.SetConfigChange on
flag_in feature.SharedObject on = input.SetSharedObject on
flag_in feature.Shmem on = input.SetShmem on

-- A flag is set, and nothing else changes.
pub record Agrees (f : Feature) (on : Bool) (old new : Channel) : Type 0 where
  pub flag : channel new.channel ≡ with_flag (flag_in f on) (channel old.channel)
  pub outgoing : new.outgoing ≡ old.outgoing
  pub asked : new.asked ≡ old.asked
  pub incoming : new.incoming ≡ old.incoming
  pub held : new.held ≡ old.held

-- ---- asks

-- the error of the protocol that a call of the channel failed with; else the other one
abbrev pub error_in : io.IoError → declared.Error → declared.Error
error_in (Of e) other = e
error_in _ other = other

-- the feature of a call
abbrev pub lacks : ReverseInput PlainHandle → VhostUserProtocolFeatures
lacks (input.Asks HandleConfigChange) = record { bits = 2 ^ bit.CONFIG }
lacks (input.Asks (ShmemMap m h)) = record { bits = 2 ^ bit.SHMEM }
lacks (input.Asks (ShmemUnmap m)) = record { bits = 2 ^ bit.SHMEM }
lacks _ = record { bits = 2 ^ bit.SHARED_OBJECT }

-- of a request whose reply is awaited the header is kept
abbrev pub Keeps : Written BackendReq PlainHandle → (awaited : Bool) → Option (Option Head) → Type 0
Keeps w true kept = (head : Head) × (kept ≡ Some (Some head)) × (fields_of head ≡ head_of backend_request_number w)
Keeps w false kept = kept ≡ Some None

-- A call was asked: its request is behind what was to be sent before. Of its reply nothing came yet, and nothing that came before waits.
pub record Asks (c : ReverseCall PlainHandle) (old new : Channel) : Type 0 where
  pub w : Written BackendReq PlainHandle
  pub awaited : Bool
  pub is : reverse_ask (remembers old) c ≡ Sends w awaited
  pub queue : queued new ≡ queued old ++ written_cells backend_request_number w
  pub keeps : Keeps w awaited new.asked
  pub memory : remembers new ≡ remembers old
  pub nothing_came : new.incoming.count ≡ 0
  pub nothing_waits : arrived new ≡ []
  pub held : new.held ≡ old.held
  pub sound : StaysSound (endpoint_of old) (endpoint_of new)

-- Why the channel did not ask, and what that left of its end: its feature was not agreed on, and nothing that came before waits; or so the link failed of an end for which nothing came or is to be sent, whose calls fail for want of memory alone.
pub data Unasked (c : ReverseCall PlainHandle) (old new : Channel) : Refusal → Type 0 where
  refuses : (e : io.IoError) → reverse_ask (remembers old) c ≡ Refuses (seen_io e) → endpoint_of new ≡ bare (endpoint_of old) → Unasked c old new (Protocol (error_in e (InactiveOperation (lacks (input.Asks c)))))
  fails : {w : Written BackendReq PlainHandle} {awaited : Bool} {e : declared.Error} (after : End) → reverse_ask (remembers old) c ≡ Sends w awaited → Fails event (bare (endpoint_of old)) false e after → endpoint_of new ≡ unsent after → Unasked c old new (Protocol e)

-- Why a call was not asked: the reply before is still to be taken, and nothing changed; memory was refused for what still waits to be sent, and its end is as before; or the channel did not ask.
pub data Refused (c : ReverseCall PlainHandle) (old new : Channel) : Refusal → Type 0 where
  busy : is_some old.asked ≡ true → new ≡ old → Refused c old new NotTaken
  no_memory : has_some old.outgoing.link.pending ≡ true → endpoint_of new ≡ endpoint_of old → Refused c old new (Protocol OutOfMemory)
  unasked : {r : Refusal} → Unasked c old new r → Refused c old new r

-- It was not asked: nothing more is to be sent, what came of a reply that is still to be taken stays, and the rest is as before.
pub record Stays (old new : Channel) : Type 0 where
  pub queue : queued new ≡ queued old
  pub memory : remembers new ≡ remembers old
  pub asked : new.asked ≡ old.asked
  pub incoming : new.incoming ≡ old.incoming
  pub held : new.held ≡ old.held
  pub came : is_some old.asked ≡ true → arrived new ≡ arrived old

-- what a session answers to an ask
abbrev pub Asking : ReverseCall PlainHandle → Channel → Result ⊤ Refusal → Channel → Type 0
Asking c s (Ok done) s' = Asks c s s'
Asking c s (Err r) s' = Refused c s s' r × Stays s s'

-- the same where nothing is asked, nothing that came waits, and its end has nothing that is to be sent
abbrev pub AskingNow : ReverseCall PlainHandle → Channel → Result ⊤ Refusal → Channel → Type 0
AskingNow c s (Ok done) s' = Asks c s s'
AskingNow c s (Err r) s' = Unasked c s s' r × Stays s s'

-- ---- bytes out and in

-- what a session answers where it is to hand out what is to be sent
abbrev pub Sending : List ℕ → List ℤ → ℕ × ℕ → Channel → Result ⊤ Refusal → Channel → Type 0
Sending bytes fds count s outcome s' = session.Sending bytes fds count (view s) outcome (view s')

-- what a session answers to bytes of its reply: no more may come than are missing
abbrev pub Receiving : List ℕ → List ℤ → Channel → Result ⊤ Refusal → Channel → Type 0
Receiving bytes fds s outcome s' = session.Receiving (missing_of s) bytes fds (view s) outcome (view s')

-- what becomes of the descriptors that come with them
abbrev pub Getting : List ℤ → Channel → Result ⊤ Refusal → Channel → Type 0
Getting fds s outcome s' = Gets fds false s.held outcome s'.held

-- what a call of C does that hands out descriptors that came
abbrev pub LettingGo : List ℤ → ℕ → List ℤ → Channel → Result ⊤ Refusal → Channel → Type 0
LettingGo before count after s (Ok done) s' = HandsLoose s.held before count after s'.held × (s' ≡ record s { held = s'.held })
LettingGo before count after s (Err r) s' = ⊥

-- ---- replies

-- What came is what the definitions make of it, and the rest is left; or the link failed, whose calls fail for want of memory alone.
pub data Hears (head : Head) (old new : Channel) : Result ℕ io.IoError → Type 0 where
  heard : {result : Result ℕ io.IoError} → reverse_take true (fields_of head) (arrived old) ≡ (seen_io_result result, arrived new) → queued new ≡ queued old → StaysSound (endpoint_of old) (endpoint_of new) → Hears head old new result
  fails : {e : declared.Error} → Fails event (endpoint_of old) true e (endpoint_of new) → Hears head old new (Err (Of e))

-- what a session answers for that
abbrev pub told : Result ℕ io.IoError → Result ⊤ Refusal
told (Ok n) = Ok tt
told (Err e) = Err (Protocol (error_in e InvalidMessage))

-- Nothing is asked any more, and what is remembered and held is as before.
pub record Settles (old new : Channel) : Type 0 where
  pub asked : new.asked ≡ None
  pub memory : remembers new ≡ remembers old
  pub held : new.held ≡ old.held

-- What taking answers: a reply that came whole was read; or it announces another size than one has, and nothing of it is left; or none was awaited; or nothing was asked, or bytes of the reply are missing, and nothing changed.
pub data Takes (old new : Channel) : Result ⊤ Refusal → Type 0 where
  read : (head : Head) (result : Result ℕ io.IoError) → missing_of old ≡ 0 → old.asked ≡ Some (Some head) → (header_of old.incoming.head).size ≡ 8 → Hears head old new result → Settles old new → Takes old new (told result)
  other_size : (head : Head) → missing_of old ≡ 0 → old.asked ≡ Some (Some head) → ¬ ((header_of old.incoming.head).size ≡ 8) → arrived new ≡ [] → queued new ≡ queued old → bare (endpoint_of new) ≡ bare (endpoint_of old) → Settles old new → Takes old new (Err (Protocol InvalidMessage))
  not_awaited : old.asked ≡ Some None → endpoint_of new ≡ endpoint_of old → queued new ≡ queued old → Settles old new → Takes old new (Ok tt)
  nothing_asked : old.asked ≡ None → new ≡ old → Takes old new (Err NothingAsked)
  not_yet : 0 < missing_of old → new ≡ old → Takes old new (Err NotYet)
