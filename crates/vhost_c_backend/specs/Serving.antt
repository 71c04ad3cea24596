-- Requests that a session reads, the calls of the device that they become, and what is replied.
use Rattle.std.specs.Prelude.{◌≡◌, ◌<◌, ◌⊎◌, ℕ, ℤ, true, false, List, ◌++◌, Option, Some, None, Result, Ok, Err, IfErr, ⊤, ok_or}
use Rattle.vhost_message.specs.declared.cause.IoCause.TheVariants.{Raw}
use Rattle.vhost_message.specs.declared.error.Error as declared
use Rattle.vhost_message.specs.declared.error.Error.TheVariants.{SocketBroken}
use Rattle.vhost_message.specs.declared.heard_req.HeardReq.{HeardReq}
use Rattle.vhost_message.specs.declared.records.memory.VhostUserMemoryRegion.{VhostUserMemoryRegion}
use Rattle.vhost_message.specs.declared.records.shmem.VhostUserShMemConfig.{VhostUserShMemConfig}
use Rattle.vhost_message.specs.Records.{shmem_config}
use Rattle.vhost_protocol.specs.Codes.{allows_handles}
use Rattle.vhost_protocol.specs.Error.{Error, BackendInternalError, seen_result}
use Rattle.vhost_protocol.specs.Row.{row_of}
use Rattle.vhost_protocol.specs.Session.{Session, heard_in}
use Rattle.vhost_protocol.specs.Settled.{settled}
use Rattle.vhost_protocol.specs.Split.{Message, split}
use Rattle.vhost_protocol.specs.Step.{Step, Outcome}
use Rattle.vhost_link.specs.Ends.{Ends}
use Rattle.vhost_link.specs.Mem.{event}
use Rattle.vhost_link.specs.declared.plain.PlainHandle.{PlainHandle}
use Rattle.vhost_connection.specs.Calls.{HandsOver}
use Rattle.vhost_connection.specs.Requests.{IsReady, Reads, Stops}
use Rattle.vhost_backend_req_handler_core.specs.Beginning.{step_of}
use Rattle.vhost_backend_req_handler_core.specs.Concluding.{FollowsFrom, device_in}
use Rattle.vhost_backend_req_handler_core.specs.Settling.{Settles}
use Rattle.vhost_backend_req_handler_core.specs.declared.answer.DeviceAnswer.{DeviceAnswer}
use Rattle.vhost_backend_req_handler_core.specs.declared.call.DeviceCall.{DeviceCall}
use Rattle.vhost_backend_req.specs.declared.backend.Backend.{Backend}
use Rattle.vhost_gpu_backend_req.specs.declared.backend.GpuBackend.{GpuBackend}
use Rattle.vhost_backend_req_handler.specs.Calling.{beside}
use Rattle.vhost_backend_req_handler.specs.Core.{endpoint_of, session_in}
use Rattle.vhost_backend_req_handler.specs.Halves.{Prepares, Refuses}
use Rattle.vhost_backend_req_handler.specs.Serving.{reply_cells, kept_unsent}
use Rattle.vhost_backend_req_handler.specs.declared.halves.Pending.{Pending}
use Rattle.vhost_backend_req_handler.specs.declared.session_core.SessionCore.{SessionCore}
use Rattle.vhost_c_common.specs.Carrying.{emptied}
use Rattle.vhost_c_common.specs.Held.{LetsGo, Released}
use Rattle.vhost_c_common.specs.Number.{feature_in}
use Rattle.vhost_c_common.specs.View.{StaysSound}
use Rattle.vhost_c_common.specs.declared.refusal.Refusal.{Refusal}
use Rattle.vhost_c_common.specs.declared.refusal.Refusal.TheVariants.{Protocol, NotYet, NotReplied, NothingAsked, OtherCall}
use Rattle.vhost_c_backend.specs.Calls.{asked_number}
use Rattle.vhost_c_backend.specs.Replies.{form_in, Gives, Rejects, GivesShmem, RejectsShmem}
use Rattle.vhost_c_backend.specs.Served.{queued, arrived, remembers, has_call, missing_of}
use Rattle.vhost_c_backend.specs.declared.replies.Form.{Form}
use Rattle.vhost_c_backend.specs.declared.replies.Reply.{Reply}
use Rattle.vhost_c_backend.specs.declared.served.Served.{Served}

-- ---- calls

abbrev pub Request : Type 0
Request = Message HeardReq PlainHandle

-- the channels of a device, of which none is ever opened here
abbrev pub Channel : Type 0
Channel = Backend Ends PlainHandle

abbrev pub Display : Type 0
Display = GpuBackend Ends PlainHandle

-- the row of a message
abbrev pub row : Session → Request → Step PlainHandle Channel Display
row s m = row_of m.request s m

-- its row makes this call
abbrev pub IsCall : Session → Request → DeviceCall → Type 0
IsCall s m c = row s m ≡ step_of s m c

-- This message was read, and its call is to be answered.
pub record IsRead (m : Request) (k : SessionCore Ends PlainHandle) : Type 0 where
  pub pending : Pending PlainHandle
  pub is : k.pending ≡ Some pending
  pub reads : Reads k.body.value pending.request m
  pub hands : HandsOver pending.handles m.handles
  pub prepares : Prepares Channel Display (session_in k) m pending.then k.service.regions
  pub settles : Settles (session_in k) m pending.unanswered
  pub ready : IsReady (endpoint_of k)

-- This message was read, and its call is to be replied to in the form that is kept.
pub record IsServed (m : Request) (s : Served) : Type 0 where
  pub read : IsRead m s.core
  pub call : DeviceCall
  pub makes : IsCall (remembers s) m call
  pub form : s.form ≡ form_in call

-- What is read of the call that is to be replied to: this, of its descriptors and of it, where it has that.
pub record Tells {A : Type 0} (of : List PlainHandle → DeviceCall → Option A) (s : Served) (outcome : Result A Refusal) : Type 0 where
  pub one : (m : Request) → IsServed m s → (c : DeviceCall) × IsCall (remembers s) m c × (outcome ≡ ok_or (of m.handles c) OtherCall)
  pub none : has_call s ≡ false → outcome ≡ Err OtherCall

-- the same of what is put into the room of a place
pub record Puts {A B : Type 0} (puts : List PlainHandle → DeviceCall → List A → List A → Result B Refusal → Type 0) (s : Served) (before after : List A) (outcome : Result B Refusal) : Type 0 where
  pub one : (m : Request) → IsServed m s → (c : DeviceCall) × IsCall (remembers s) m c × puts m.handles c before after outcome
  pub none : has_call s ≡ false → (outcome ≡ Err OtherCall) × (after ≡ before)
  pub refused : IfErr outcome (λ r. after ≡ before)

-- the same of calls of C, which put it at places and leave the session as it is
abbrev pub Telling : {A : Type 0} → (List PlainHandle → DeviceCall → Option A) → A → Served → Result ⊤ Refusal → Served → Type 0
Telling of a s (Ok done) s' = Tells of s (Ok a) × (s' ≡ s)
Telling of a s (Err r) s' = Tells of s (Err r) × (s' ≡ s)

abbrev pub Putting : {A B : Type 0} → (List PlainHandle → DeviceCall → List A → List A → Result B Refusal → Type 0) → List A → List A → B → Served → Result ⊤ Refusal → Served → Type 0
Putting puts before after b s (Ok done) s' = Puts puts s before after (Ok b) × (s' ≡ s)
Putting puts before after b s (Err r) s' = Puts puts s before after (Err r) × (s' ≡ s)

-- ---- the next request

-- The next request may be read: no call is to be replied to, and no byte is known to be missing.
pub record IsDue (s : Served) : Type 0 where
  pub idle : has_call s ≡ false
  pub whole : missing_of s ≡ 0

-- The request that came is a message, as its stream is split, and it became this call of the device, which may claim the descriptors that came with it. What is to be sent and what is remembered are as before. It lacks no feature.
pub record Begins (number : ℕ) (old new : Served) : Type 0 where
  pub due : IsDue old
  pub message : Request
  pub came : split (heard_in (remembers old)) allows_handles (arrived old) ≡ (Ok message, arrived new)
  pub served : IsServed message new
  pub is_number : number ≡ asked_number (row (remembers old) message)
  pub memory : remembers new ≡ remembers old
  pub queue : queued new ≡ queued old
  pub nothing_came : new.incoming.count ≡ 0
  pub inactive : new.inactive ≡ 0
  pub held : new.held ≡ old.held
  pub sound : StaysSound (endpoint_of old.core) (endpoint_of new.core)

-- It was refused, or trouble came first; the device is asked nothing, nothing of the request is left, and nobody will claim what came with it. Which feature it lacks is kept, if that is why.
pub record Denies (e : declared.Error) (old new : Served) : Type 0 where
  pub due : IsDue old
  pub mid : SessionCore Ends PlainHandle
  pub refuses : Refuses Channel Display event old.core e mid
  pub end : endpoint_of new.core ≡ emptied (endpoint_of mid)
  pub memory : remembers new ≡ session_in mid
  pub outgoing : new.outgoing ≡ old.outgoing
  pub idle : has_call new ≡ false
  pub nothing_came : new.incoming.count ≡ 0
  pub inactive : new.inactive ≡ feature_in e
  pub held : Released old.held new.held

-- The session has ended, which it says; it reads nothing more, what came is forgotten, and nobody will claim what came with it.
pub record Ended (n : ℤ) (e : declared.Error) (old new : Served) : Type 0 where
  pub is : e ≡ SocketBroken (Raw n)
  pub end : endpoint_of new.core ≡ emptied (endpoint_of old.core)
  pub memory : remembers new ≡ remembers old
  pub outgoing : new.outgoing ≡ old.outgoing
  pub idle : has_call new ≡ false
  pub nothing_came : new.incoming.count ≡ 0
  pub held : Released old.held new.held

-- What a session answers where it is to read the next request: the number of a call, or why not. One that has ended says so.
abbrev pub Nexts : Served → Result ℕ Refusal → Served → Type 0
Nexts s (Ok number) s' = ((remembers s).failed ≡ None → Begins number s s') × ((n : ℤ) → (remembers s).failed ≡ Some n → ⊥)
Nexts s (Err (Protocol e)) s' = ((remembers s).failed ≡ None → Denies e s s') × ((n : ℤ) → (remembers s).failed ≡ Some n → Ended n e s s')
Nexts s (Err NotReplied) s' = (has_call s ≡ true) × (s' ≡ s)
Nexts s (Err NotYet) s' = (0 < missing_of s) × (s' ≡ s)
Nexts s (Err r) s' = ⊥

-- the same of a call of C that puts the number at a place
abbrev pub Beginning : ℕ → Served → Result ⊤ Refusal → Served → Type 0
Beginning number s (Ok done) s' = Nexts s (Ok number) s'
Beginning number s (Err r) s' = Nexts s (Err r) s'

-- ---- replies

-- an error of what follows from a device's answer: the device's own; or the answer doesn't do for the call
abbrev pub IsOwn : DeviceAnswer PlainHandle → Error → Type 0
IsOwn a e = (device_in a ≡ Err e) ⊎ (e ≡ BackendInternalError)

-- What follows in the table from a device's answer to the call of a message was replied, settled, with these regions of shared memory in their place, and fails for the answer alone; or a fault stopped the reply.
pub data Concludes (m : Request) (place : VhostUserShMemConfig) (a : DeviceAnswer PlainHandle) (old new : Served) : Result ⊤ declared.Error → Type 0 where
  told : {result : Result ⊤ declared.Error} (rs : List VhostUserMemoryRegion) (o : Outcome PlainHandle) → FollowsFrom (remembers old) (beside rs place) a (row (remembers old) m) o
      → (settled (remembers old) m o).answer ≡ seen_result result → queued new ≡ queued old ++ reply_cells m.request (settled (remembers old) m o).served → arrived new ≡ arrived old
      → remembers new ≡ (settled (remembers old) m o).session → StaysSound (endpoint_of old.core) (endpoint_of new.core) → ((e : Error) → o.answer ≡ Err e → IsOwn a e) → Concludes m place a old new result
  stopped : {e : declared.Error} (rs : List VhostUserMemoryRegion) (o : Outcome PlainHandle) → FollowsFrom (remembers old) (beside rs place) a (row (remembers old) m) o
      → Stops event (endpoint_of old.core) (reply_cells m.request (settled (remembers old) m o).served) e (endpoint_of new.core)
      → remembers new ≡ kept_unsent m.request (remembers old) (settled (remembers old) m o).session → Concludes m place a old new (Err e)

-- No call is to be replied to any more, and what came of the next request is as before.
pub record Rests (old new : Served) : Type 0 where
  pub idle : has_call new ≡ false
  pub incoming : new.incoming ≡ old.incoming
  pub inactive : new.inactive ≡ old.inactive

-- The call of a message was replied to by an answer that this gives for its form.
pub record Replies (m : Request) (gives : Form → DeviceAnswer PlainHandle → Type 0) (place : VhostUserShMemConfig) (old : Served) (result : Result ⊤ declared.Error) (new : Served) : Type 0 where
  pub call : DeviceCall
  pub makes : IsCall (remembers old) m call
  pub answer : DeviceAnswer PlainHandle
  pub is_given : gives (form_in call) answer
  pub concludes : Concludes m place answer old new result
  pub rest : Rests old new

-- It was not, for this reason by its form; nothing changed.
pub record Stays (m : Request) (rejects : Form → Refusal → Type 0) (old : Served) (r : Refusal) (new : Served) : Type 0 where
  pub call : DeviceCall
  pub makes : IsCall (remembers old) m call
  pub is_rejected : rejects (form_in call) r
  pub same : new ≡ old

-- what becomes of a reply to the call of a message
pub data Replying (m : Request) (gives : Form → DeviceAnswer PlainHandle → Type 0) (rejects : Form → Refusal → Type 0) (place : VhostUserShMemConfig) (old : Served) : Result ⊤ Refusal → Served → Type 0 where
  done : {new : Served} → Replies m gives place old (Ok tt) new → Replying m gives rejects place old (Ok tt) new
  failed : {e : declared.Error} {new : Served} → Replies m gives place old (Err e) new → Replying m gives rejects place old (Err (Protocol e)) new
  rejected : {r : Refusal} {new : Served} → Stays m rejects old r new → Replying m gives rejects place old (Err r) new

-- What a session answers to a reply: one goes to the call of the message that was read, and none where there is none. What came with a call that was replied to, and was not claimed, nobody will claim.
pub record Answers (gives : Form → DeviceAnswer PlainHandle → Type 0) (rejects : Form → Refusal → Type 0) (place : VhostUserShMemConfig) (old : Served) (outcome : Result ⊤ Refusal) (new : Served) : Type 0 where
  pub one : (m : Request) → IsServed m old → Replying m gives rejects place old outcome new
  pub none : has_call old ≡ false → (outcome ≡ Err NothingAsked) × (new ≡ old)
  pub held : LetsGo (has_call old) (has_call new) old.held new.held

abbrev pub Answering : Reply → Served → Result ⊤ Refusal → Served → Type 0
Answering r s outcome s' = Answers (λ f a. Gives f r a) (λ f e. Rejects f r e) s.core.service.shmem s outcome s'

-- the same of so many regions of shared memory with these sizes, which lie in their place
abbrev pub AnsweringShmem : ℕ → List ℕ → Served → Result ⊤ Refusal → Served → Type 0
AnsweringShmem count sizes s outcome s' = Answers GivesShmem (RejectsShmem sizes) (shmem_config count sizes) s outcome s'
