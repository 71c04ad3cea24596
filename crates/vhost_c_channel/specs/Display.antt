-- What the calls of a device's session with a display do.
use Rattle.std.specs.Prelude.{◌≡◌, ◌<◌, ◌≤◌, ℕ, ℤ, List, [], ◌++◌, length, drop, Option, Some, None, Result, Ok, Err, ⊤, Bool, true, false, is_some, codes}
use Rattle.std.specs.Option.{option_map}
use Rattle.vhost_message.specs.Header.{Header, header_of}
use Rattle.vhost_message.specs.declared.error.Error as declared
use Rattle.vhost_message.specs.declared.error.Error.TheVariants.{OutOfMemory, InvalidMessage}
use Rattle.vhost_message.specs.declared.io_error.IoError as io
use Rattle.vhost_message.specs.declared.io_error.IoError.TheVariants.{Of, In}
use Rattle.vhost_gpu_message.specs.GpuHeader.{gpu_fields_of}
use Rattle.vhost_gpu_message.specs.declared.limits.TheConstants.{MAX_GPU_MSG_SIZE}
use Rattle.vhost_protocol.specs.Error.{seen}
use Rattle.vhost_protocol.specs.Gpu.{GpuCall, GpuReply, TheEmpty, gpu_row, gpu_head, gpu_cells, gpu_record_size, gpu_take, sent_by}
use Rattle.vhost_protocol.specs.IoError as seen_error
use Rattle.vhost_protocol.specs.IoError.{seen_io, seen_io_result}
use Rattle.vhost_protocol.specs.Stream.{Cell, has_some, plain}
use Rattle.vhost_link.specs.Ends.{Ends}
use Rattle.vhost_link.specs.Mem.{event}
use Rattle.vhost_link.specs.declared.plain.PlainHandle.{PlainHandle}
use Rattle.vhost_connection.specs.Hearing.{Fails}
use Rattle.vhost_connection.specs.Memory.{stream}
use Rattle.vhost_connection.specs.Talk.{State}
use Rattle.vhost_gpu_backend_req.specs.Asking.{read_as}
use Rattle.vhost_gpu_backend_req.specs.Channel as link
use Rattle.vhost_gpu_backend_req.specs.Channel.{channel}
use Rattle.vhost_gpu_backend_req.specs.Halves.{FrontUnsent, Keeps, reply_in}
use Rattle.vhost_gpu_backend_req.specs.declared.call.Awaited.{Awaited}
use Rattle.vhost_c_common.specs.Held.{Gets, HandsLoose, HoldsNone}
use Rattle.vhost_c_common.specs.Incoming.{missing_in}
use Rattle.vhost_c_common.specs.View as session
use Rattle.vhost_c_common.specs.View.{View, IsEmpty, StaysSound, bare, unsent, view_of}
use Rattle.vhost_c_common.specs.declared.incoming.Incoming.{Incoming}
use Rattle.vhost_c_common.specs.declared.refusal.Refusal.{Refusal}
use Rattle.vhost_c_common.specs.declared.refusal.Refusal.TheVariants.{NotTaken, NothingAsked, NotYet, NoRoom, OtherAnswer, Protocol}
use Rattle.vhost_c_channel.specs.declared.display.Display.{Display}

-- ---- a session

-- its end of the connection
abbrev pub endpoint_of : Display → State Ends PlainHandle
endpoint_of s = (channel s.channel).endpoint

-- what is to be sent: bytes, each with the descriptors that go with it
abbrev pub queued : Display → List (Cell PlainHandle)
queued s = s.outgoing.link.pending ++ (endpoint_of s).link.sent

-- what came, and was not taken
abbrev pub arrived : Display → List (Cell PlainHandle)
arrived s = stream (endpoint_of s)

-- the number of the error with which it was marked as failed
abbrev pub mark_of : Display → Option ℤ
mark_of s = (channel s.channel).failed

-- how many bytes can be told to be missing of a reply: none where none is awaited
abbrev pub missing_for : Option (Option Awaited) → Incoming → ℕ
missing_for (Some (Some awaited)) i = missing_in i
missing_for _ i = 0

abbrev pub missing_of : Display → ℕ
missing_of s = missing_for s.asked s.incoming

-- a call was asked that awaits no reply
abbrev pub awaits_none : Option (Option Awaited) → Bool
awaits_none (Some None) = true
awaits_none _ = false

-- it, as the contracts of all sessions see one: with its mark, and the call whose reply is to be taken
abbrev pub view : Display → View (Option ℤ × Option (Option Awaited))
view s = view_of s.outgoing (endpoint_of s) s.incoming (mark_of s, s.asked)

-- A new session: it is sound and empty, nothing is asked, and no descriptor is held.
pub record IsNew (s : Display) : Type 0 where
  pub empty : IsEmpty (view s)
  pub asked : s.asked ≡ None
  pub mark : mark_of s ≡ None
  pub held : HoldsNone s.held

-- ---- asks

-- the error of the protocol that a call of the channel failed with
abbrev pub error_in : io.IoError → declared.Error
error_in (Of e) = e
error_in (In place e) = e
error_in _ = InvalidMessage

-- A call was asked: what is to be sent and then its pixels are what was to be sent before and then its message. Of its reply nothing came yet, and nothing that came before waits.
pub record Asks (c : GpuCall PlainHandle) (old new : Display) : Type 0 where
  pub queue : queued new ++ plain (gpu_row c).payload ≡ queued old ++ gpu_cells (gpu_row c)
  pub fits : (gpu_head (gpu_row c)).size ≤ MAX_GPU_MSG_SIZE
  pub kept : Option Awaited
  pub keeps : Keeps (gpu_row c) kept
  pub asked : new.asked ≡ Some kept
  pub mark : mark_of new ≡ mark_of old
  pub nothing_came : new.incoming.count ≡ 0
  pub nothing_waits : arrived new ≡ []
  pub held : new.held ≡ old.held
  pub sound : StaysSound (endpoint_of old) (endpoint_of new)

-- So the channel did not ask, of an end for which nothing came or is to be sent, and this is what that left of its end.
pub data Unasked (c : GpuCall PlainHandle) (old new : Display) : Refusal → Type 0 where
  not_sent : (e : io.IoError) (after : link.Channel Ends PlainHandle) → FrontUnsent event (sent_by c) (gpu_row c) (record { endpoint = bare (endpoint_of old); failed = mark_of old }) (seen_io e) after → endpoint_of new ≡ unsent after.endpoint
      → Unasked c old new (Protocol (error_in e))

-- Why a call was not asked: the reply before is still to be taken, and nothing changed; memory was refused for what still waits to be sent, and its end is as before; or the channel did not ask.
pub data Refused (c : GpuCall PlainHandle) (old new : Display) : Refusal → Type 0 where
  busy : is_some old.asked ≡ true → new ≡ old → Refused c old new NotTaken
  no_memory : has_some old.outgoing.link.pending ≡ true → endpoint_of new ≡ endpoint_of old → Refused c old new (Protocol OutOfMemory)
  unasked : {r : Refusal} → Unasked c old new r → Refused c old new r

-- It was not asked: nothing more is to be sent, what came of a reply that is still to be taken stays, and the rest is as before.
pub record Stays (old new : Display) : Type 0 where
  pub queue : queued new ≡ queued old
  pub mark : mark_of new ≡ mark_of old
  pub asked : new.asked ≡ old.asked
  pub incoming : new.incoming ≡ old.incoming
  pub held : new.held ≡ old.held
  pub came : is_some old.asked ≡ true → arrived new ≡ arrived old

-- what a session answers to an ask
abbrev pub Asking : GpuCall PlainHandle → Display → Result ⊤ Refusal → Display → Type 0
Asking c s (Ok done) s' = Asks c s s'
Asking c s (Err r) s' = Refused c s s' r × Stays s s'

-- the same where nothing is asked, nothing that came waits, and its end has nothing that is to be sent
abbrev pub AskingNow : GpuCall PlainHandle → Display → Result ⊤ Refusal → Display → Type 0
AskingNow c s (Ok done) s' = Asks c s s'
AskingNow c s (Err r) s' = Unasked c s s' r × Stays s s'

-- ---- bytes out and in

-- what a session answers where it is to hand out what is to be sent
abbrev pub Sending : List ℕ → List ℤ → ℕ × ℕ → Display → Result ⊤ Refusal → Display → Type 0
Sending bytes fds count s outcome s' = session.Sending bytes fds count (view s) outcome (view s')

-- what a session answers to bytes of its reply: no more may come than are missing
abbrev pub Receiving : List ℕ → List ℤ → Display → Result ⊤ Refusal → Display → Type 0
Receiving bytes fds s outcome s' = session.Receiving (missing_of s) bytes fds (view s) outcome (view s')

-- what becomes of the descriptors that come with them
abbrev pub Getting : List ℤ → Display → Result ⊤ Refusal → Display → Type 0
Getting fds s outcome s' = Gets fds false s.held outcome s'.held

-- what a call of C does that hands out descriptors that came
abbrev pub LettingGo : List ℤ → ℕ → List ℤ → Display → Result ⊤ Refusal → Display → Type 0
LettingGo before count after s (Ok done) s' = HandsLoose s.held before count after s'.held × (s' ≡ record s { held = s'.held })
LettingGo before count after s (Err r) s' = ⊥

-- ---- replies

-- Nothing is asked any more, and the same descriptors are held.
pub record Settles (old new : Display) : Type 0 where
  pub asked : new.asked ≡ None
  pub mark : mark_of new ≡ mark_of old
  pub held : new.held ≡ old.held

-- what a session answers for what came
abbrev pub told : {T : Type 0} → Result T io.IoError → Result T Refusal
told (Ok t) = Ok t
told (Err e) = Err (Protocol (error_in e))

module _ {T : Type 0} (reply : GpuReply) (read : List ℕ → T) where
  -- What came is what the definitions make of it, and the rest is left; or the link failed, whose calls fail for want of memory alone.
  pub data Hears (head : Header) (old new : Display) : Result T io.IoError → Type 0 where
    heard : {answer : Result (List ℕ) seen_error.IoError} {result : Result T io.IoError} → gpu_take (Some reply) head (arrived old) ≡ (answer, arrived new) → seen_io_result result ≡ read_as read answer → queued new ≡ queued old → StaysSound (endpoint_of old) (endpoint_of new)
        → Hears head old new result
    fails : {e : io.IoError} (d : declared.Error) → Fails event (endpoint_of old) true d (endpoint_of new) → seen_io e ≡ seen_error.In (codes "recv_body") (seen d) → Hears head old new (Err e)

  -- What taking such a record answers: a reply that came whole was read; or it announces another size than one has, and nothing of it is left; or the reply that is awaited has another form, or none is; or nothing was asked, or bytes of the reply are missing, and nothing changed.
  pub data TakesRecord (old new : Display) : Result T Refusal → Type 0 where
    reads : (a : Awaited) (result : Result T io.IoError) → missing_of old ≡ 0 → old.asked ≡ Some (Some a) → reply_in a.reply ≡ reply → (header_of old.incoming.head).size ≡ gpu_record_size reply
        → Hears (gpu_fields_of a.request) old new result → Settles old new → TakesRecord old new (told result)
    other_size : (a : Awaited) → missing_of old ≡ 0 → old.asked ≡ Some (Some a) → reply_in a.reply ≡ reply → ¬ ((header_of old.incoming.head).size ≡ gpu_record_size reply)
        → arrived new ≡ [] → queued new ≡ queued old → bare (endpoint_of new) ≡ bare (endpoint_of old) → Settles old new → TakesRecord old new (Err (Protocol InvalidMessage))
    other_form : (kept : Option Awaited) → old.asked ≡ Some kept → ¬ (option_map (λ a. reply_in a.reply) kept ≡ Some reply) → new ≡ old → TakesRecord old new (Err OtherAnswer)
    nothing_asked : old.asked ≡ None → new ≡ old → TakesRecord old new (Err NothingAsked)
    not_yet : 0 < missing_of old → new ≡ old → TakesRecord old new (Err NotYet)

-- The same of a place: the record's wire bytes are at its front; or it was not taken; or there is no room, and nothing changed.
pub data TakesTo {T : Type 0} (reply : GpuReply) (read : List ℕ → T) (text : T → List ℕ) (before after : List ℕ) (old new : Display) : Result ⊤ Refusal → Type 0 where
  taken : (t : T) → TakesRecord reply read old new (Ok t) → after ≡ text t ++ drop (gpu_record_size reply) before → TakesTo reply read text before after old new (Ok tt)
  not_taken : (r : Refusal) → gpu_record_size reply ≤ length before → TakesRecord reply read old new (Err r) → after ≡ before → TakesTo reply read text before after old new (Err r)
  no_room : length before < gpu_record_size reply → after ≡ before → new ≡ old → TakesTo reply read text before after old new (Err NoRoom)

-- What taking a reply without a value answers: none was awaited; or it was taken as an empty record.
pub data Takes (old new : Display) : Result ⊤ Refusal → Type 0 where
  not_awaited : old.asked ≡ Some None → endpoint_of new ≡ endpoint_of old → queued new ≡ queued old → Settles old new → Takes old new (Ok tt)
  takes : {result : Result ⊤ Refusal} → ¬ (old.asked ≡ Some None) → TakesRecord TheEmpty (λ bs. tt) old new result → Takes old new result
