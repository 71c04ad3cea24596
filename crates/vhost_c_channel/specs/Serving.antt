-- What the calls of a frontend's session do: requests that it reads, the calls that they become, and what is replied.
use Rattle.std.specs.Prelude.{◌≡◌, ◌<◌, ◌^◌, ◌==◌, ◌||◌, nat_lt, ℕ, ℤ, Bool, true, false, List, ◌++◌, Contains, Option, Some, None, Result, Ok, Err, IfErr, ⊤, is_some, ok_or, if◌then◌else◌}
use Rattle.vhost_message.specs.BackendReq.{backend_request_of}
use Rattle.vhost_message.specs.declared.backend_req.BackendReq.{BackendReq}
use Rattle.vhost_message.specs.declared.error.Error as declared
use Rattle.vhost_message.specs.declared.error.Error.TheVariants.{ReqHandlerError}
use Rattle.vhost_message.specs.declared.limits.TheConstants.{MSG_HEADER_SIZE}
use Rattle.vhost_protocol.specs.Error.{seen_result}
use Rattle.vhost_protocol.specs.IoError.{IoError}
use Rattle.vhost_protocol.specs.Reverse.{Server, Calls, backend_allows_handles, handed_on, result_number, reverse_row_of, with_number}
use Rattle.vhost_protocol.specs.Split.{Message, split}
use Rattle.vhost_protocol.specs.Stream.{Cell}
use Rattle.vhost_link.specs.Ends.{Ends}
use Rattle.vhost_link.specs.Mem.{event}
use Rattle.vhost_link.specs.declared.plain.PlainHandle.{PlainHandle}
use Rattle.vhost_connection.specs.Memory.{stream}
use Rattle.vhost_connection.specs.Requests.{IsReady, Stops}
use Rattle.vhost_connection.specs.declared.request.Request as code
use Rattle.vhost_frontend_req_handler.specs.Calling.{call_in}
use Rattle.vhost_frontend_req_handler.specs.Core.{endpoint_of, server_in, number_cells}
use Rattle.vhost_frontend_req_handler.specs.Halves.{Refuses}
use Rattle.vhost_frontend_req_handler.specs.declared.call.FrontendSideCall.{FrontendSideCall}
use Rattle.vhost_frontend_req_handler.specs.declared.req_core.FrontendReqCore.{FrontendReqCore}
use Rattle.vhost_c_common.specs.Carrying.{emptied}
use Rattle.vhost_c_common.specs.Held.{Abandons, Claimed, Gets, HandsLoose, HoldsNone, LetsGo, Released, claimable}
use Rattle.vhost_c_common.specs.Incoming.{missing_by}
use Rattle.vhost_c_common.specs.Number.{error_number}
use Rattle.vhost_c_common.specs.View as session
use Rattle.vhost_c_common.specs.View.{View, IsEmpty, StaysSound, view_of}
use Rattle.vhost_c_common.specs.declared.refusal.Refusal.{Refusal}
use Rattle.vhost_c_common.specs.declared.refusal.Refusal.TheVariants.{Protocol, NotYet, NotReplied, NothingAsked, OtherCall}
use Rattle.vhost_c_channel.specs.Arguments.{call_number, PutsName}
use Rattle.vhost_c_channel.specs.declared.serving.ChannelServer.{ChannelServer}

-- ---- a session

-- a message of a device
abbrev pub Request : Type 0
Request = Message BackendReq PlainHandle

-- what is to be sent: bytes, each with the descriptors that go with it
abbrev pub queued : ChannelServer → List (Cell PlainHandle)
queued s = s.outgoing.link.pending ++ (endpoint_of s.core).link.sent

-- what came, and was not read
abbrev pub arrived : ChannelServer → List (Cell PlainHandle)
arrived s = stream (endpoint_of s.core)

-- what it remembers
abbrev pub remembers : ChannelServer → Server
remembers s = server_in s.core

-- whether a call is to be replied to
abbrev pub has_call : ChannelServer → Bool
has_call s = is_some s.core.pending

-- how many bytes can be told to be missing of a request: none where a call is to be replied to
abbrev pub missing_of : ChannelServer → ℕ
missing_of s = if has_call s then 0 else missing_by backend_request_of s.incoming

-- what it means that the stream ended: between two requests, in a header, in a body
abbrev pub end_number : ChannelServer → ℕ
end_number s = if s.incoming.count == 0 || missing_of s == 0 then 10 else if nat_lt s.incoming.count MSG_HEADER_SIZE then 9 else 5

-- whether nothing came of the next request: what comes now comes with its first byte
abbrev pub is_first : ChannelServer → Bool
is_first s = s.incoming.count == 0

-- it, as the contracts of all sessions see one: with what it remembers, the request whose call is to be replied to with its body, and that call
abbrev pub view : ChannelServer → View (Server × Option (code.Request BackendReq) × List ℕ × Option (FrontendSideCall PlainHandle))
view s = view_of s.outgoing (endpoint_of s.core) s.incoming (remembers s, s.core.pending, s.core.body.value, s.call)

-- A new session: it is sound and empty, no call is to be replied to, and no descriptor is held.
pub record IsNew (s : ChannelServer) : Type 0 where
  pub empty : IsEmpty (view s)
  pub memory : remembers s ≡ record { reply_ack = false; failed = None }
  pub idle : has_call s ≡ false
  pub held : HoldsNone s.held

-- Whether requests are replied to is set, and nothing else changes.
pub record Acknowledges (on : Bool) (old new : ChannelServer) : Type 0 where
  pub memory : remembers new ≡ record (remembers old) { reply_ack = on }
  pub end : endpoint_of new.core ≡ endpoint_of old.core
  pub pending : new.core.pending ≡ old.core.pending
  pub call : new.call ≡ old.call
  pub outgoing : new.outgoing ≡ old.outgoing
  pub incoming : new.incoming ≡ old.incoming
  pub held : new.held ≡ old.held

-- ---- bytes in and out

-- what a session answers to bytes of a request: no more may come than are missing
abbrev pub Receiving : List ℕ → List ℤ → ChannelServer → Result ⊤ Refusal → ChannelServer → Type 0
Receiving bytes fds s outcome s' = session.Receiving (missing_of s) bytes fds (view s) outcome (view s')

-- what becomes of the descriptors that come with them
abbrev pub Getting : List ℤ → ChannelServer → Result ⊤ Refusal → ChannelServer → Type 0
Getting fds s outcome s' = Gets fds (is_first s) s.held outcome s'.held

-- what it answers where it is to hand out what is to be sent
abbrev pub Sending : List ℕ → List ℤ → ℕ × ℕ → ChannelServer → Result ⊤ Refusal → ChannelServer → Type 0
Sending bytes fds count s outcome s' = session.Sending bytes fds count (view s) outcome (view s')

-- what is answered to the end of the stream
abbrev pub Ending : ChannelServer → Result ⊤ Refusal → ChannelServer → Type 0
Ending s (Err (Protocol e)) s' = (error_number e ≡ end_number s) × (s' ≡ s)
Ending s _ s' = ⊥

-- ---- the next request

-- This message was read, and this call of its row is to be replied to.
pub record IsServed (m : Request) (c : FrontendSideCall PlainHandle) (s : ChannelServer) : Type 0 where
  pub request : code.Request BackendReq
  pub is : s.core.pending ≡ Some request
  pub code : request.code ≡ m.request
  pub need_reply : request.need_reply ≡ m.need_reply
  pub call : s.call ≡ Some c
  pub row : reverse_row_of m.request (remembers s) m ≡ Calls (call_in c) (with_number (remembers s) m)
  pub ready : IsReady (endpoint_of s.core)

-- The request that came is a message, as its stream is split, and its row makes this call, which may claim the descriptors that came with it. What is to be sent and what is remembered are as before.
pub record Begins (number : ℕ) (old new : ChannelServer) : Type 0 where
  pub message : Request
  pub call : FrontendSideCall PlainHandle
  pub came : split backend_request_of backend_allows_handles (arrived old) ≡ (Ok message, arrived new)
  pub served : IsServed message call new
  pub is_number : number ≡ call_number call
  pub memory : remembers new ≡ remembers old
  pub queue : queued new ≡ queued old
  pub nothing_came : new.incoming.count ≡ 0
  pub held : new.held ≡ old.held
  pub sound : StaysSound (endpoint_of old.core) (endpoint_of new.core)

-- The next request may be read: no call is to be replied to, and no byte is known to be missing.
pub record IsDue (s : ChannelServer) : Type 0 where
  pub idle : has_call s ≡ false
  pub whole : missing_of s ≡ 0

-- It was refused, or trouble came first; nobody is asked, nothing of the request is left, and nobody will claim what came with it.
pub record Denies (e : declared.Error) (old new : ChannelServer) : Type 0 where
  pub due : IsDue old
  pub mid : FrontendReqCore Ends PlainHandle
  pub refuses : Refuses event old.core e mid
  pub end : endpoint_of new.core ≡ emptied (endpoint_of mid)
  pub memory : remembers new ≡ server_in mid
  pub outgoing : new.outgoing ≡ old.outgoing
  pub idle : has_call new ≡ false
  pub nothing_came : new.incoming.count ≡ 0
  pub held : Released old.held new.held

-- What a session answers where it is to read the next request: the number of a call, or why not. It is never marked as failed.
abbrev pub Nexts : ChannelServer → Result ℕ Refusal → ChannelServer → Type 0
Nexts s (Ok number) s' = (remembers s).failed ≡ None → Begins number s s'
Nexts s (Err (Protocol e)) s' = (remembers s).failed ≡ None → Denies e s s'
Nexts s (Err NotReplied) s' = (has_call s ≡ true) × (s' ≡ s)
Nexts s (Err NotYet) s' = (0 < missing_of s) × (s' ≡ s)
Nexts s (Err r) s' = ⊥

-- the same of a call of C that puts the number at a place
abbrev pub Beginning : ℕ → ChannelServer → Result ⊤ Refusal → ChannelServer → Type 0
Beginning number s (Ok done) s' = Nexts s (Ok number) s'
Beginning number s (Err r) s' = Nexts s (Err r) s'

-- ---- arguments

-- What is read of the call that is to be replied to: this, where it has that.
pub record Tells {A : Type 0} (of : FrontendSideCall PlainHandle → Option A) (s : ChannelServer) (outcome : Result A Refusal) : Type 0 where
  pub one : (m : Request) (c : FrontendSideCall PlainHandle) → IsServed m c s → outcome ≡ ok_or (of c) OtherCall
  pub none : has_call s ≡ false → outcome ≡ Err OtherCall

-- the same of its name, which is put at the front of a place
pub record PutsInto (s : ChannelServer) (before after : List ℕ) (outcome : Result ⊤ Refusal) : Type 0 where
  pub one : (m : Request) (c : FrontendSideCall PlainHandle) → IsServed m c s → PutsName c before after outcome
  pub none : has_call s ≡ false → (outcome ≡ Err OtherCall) × (after ≡ before)
  pub refused : IfErr outcome (λ r. after ≡ before)

-- the same of calls of C, which put it at places and leave the session as it is
abbrev pub Telling : {A : Type 0} → (FrontendSideCall PlainHandle → Option A) → A → ChannelServer → Result ⊤ Refusal → ChannelServer → Type 0
Telling of a s (Ok done) s' = Tells of s (Ok a) × (s' ≡ s)
Telling of a s (Err r) s' = Tells of s (Err r) × (s' ≡ s)

abbrev pub Putting : List ℕ → List ℕ → ChannelServer → Result ⊤ Refusal → ChannelServer → Type 0
Putting before after s outcome s' = PutsInto s before after outcome × (s' ≡ s)

-- ---- replies

-- The number of an answer was replied, where the request wants it, the answer is handed on, and what came is as before; or a fault stopped the reply, whose link fails for want of memory alone.
pub data Concludes (request : code.Request BackendReq) (a : Result ℕ IoError) (old new : ChannelServer) : Result ℕ declared.Error → Type 0 where
  concluded : {result : Result ℕ declared.Error} → seen_result result ≡ handed_on a → queued new ≡ queued old ++ number_cells (remembers old) request a → arrived new ≡ arrived old
      → StaysSound (endpoint_of old.core) (endpoint_of new.core) → Concludes request a old new result
  stopped : {e : declared.Error} → Stops event (endpoint_of old.core) (number_cells (remembers old) request a) e (endpoint_of new.core) → Concludes request a old new (Err e)

-- whether an error is that of an answer, which is handed on to the one who gave it
abbrev pub is_handed : declared.Error → Bool
is_handed (ReqHandlerError c) = true
is_handed _ = false

-- what a session answers for that: the answer's own error is none of it
abbrev pub told : Result ℕ declared.Error → Result ⊤ Refusal
told (Ok n) = Ok tt
told (Err e) = if is_handed e then Ok tt else Err (Protocol e)

-- The call of a request was replied to, by a number of 64 bits, and none is to be replied to any more.
pub record Replies (request : code.Request BackendReq) (a : Result ℕ IoError) (old : ChannelServer) (outcome : Result ⊤ Refusal) (new : ChannelServer) : Type 0 where
  pub result : Result ℕ declared.Error
  pub concludes : Concludes request a old new result
  pub is_told : outcome ≡ told result
  pub fits : result_number a < 2 ^ 64
  pub memory : remembers new ≡ remembers old
  pub idle : has_call new ≡ false
  pub incoming : new.incoming ≡ old.incoming

-- What a session answers to a reply: one goes to the call of the message that was read, and none where there is none. What came with a call that was replied to, and was not claimed, nobody will claim.
pub record Answering (a : Result ℕ IoError) (old : ChannelServer) (outcome : Result ⊤ Refusal) (new : ChannelServer) : Type 0 where
  pub one : (m : Request) (c : FrontendSideCall PlainHandle) (x : IsServed m c old) → Replies x.request a old outcome new
  pub none : has_call old ≡ false → (outcome ≡ Err NothingAsked) × (new ≡ old)
  pub held : LetsGo (has_call old) (has_call new) old.held new.held

-- ---- descriptors

-- what a session answers to a claim of a descriptor: it came with the call that is to be replied to, and is the caller's now; or there is no such call, or it has none of that number that was not claimed
abbrev pub Claiming : ℤ → ChannelServer → Result ⊤ Refusal → ChannelServer → Type 0
Claiming fd s (Ok done) s' = (has_call s ≡ true) × Claimed fd s.held s'.held × (s' ≡ record s { held = s'.held })
Claiming fd s (Err OtherCall) s' = (has_call s ≡ true → ¬ (Contains (claimable s.held) fd)) × (s' ≡ s)
Claiming fd s _ s' = ⊥

-- what a call of C does that hands out descriptors that nobody will claim
abbrev pub LettingGo : List ℤ → ℕ → List ℤ → ChannelServer → Result ⊤ Refusal → ChannelServer → Type 0
LettingGo before count after s (Ok done) s' = HandsLoose s.held before count after s'.held × (s' ≡ record s { held = s'.held })
LettingGo before count after s (Err r) s' = ⊥

-- what a call of C does after which the rest of a request will never come
abbrev pub Abandoning : ChannelServer → Result ⊤ Refusal → ChannelServer → Type 0
Abandoning s (Ok done) s' = Abandons (has_call s) s.held s'.held × (s' ≡ record s { held = s'.held })
Abandoning s (Err r) s' = ⊥
