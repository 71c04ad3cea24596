-- The reverse channel: what a device asks of its frontend, and how the frontend serves it ("Back-end message types").
use Rattle.std.specs.Prelude.{◌≡◌, ℕ, ◌+◌, ◌-◌, ◌%◌, ◌^◌, ℤ, pos, negsuc, Bool, true, false, not, ◌&&◌, List, [], ◌∷◌, Option, Some, None, Result, Ok, Err, is_err, is_some, if◌then◌else◌, ◌==◌, codes}
use Rattle.vhost_message.specs.BackendReq.{backend_request_of, backend_request_number}
use Rattle.vhost_message.specs.declared.backend_req.BackendReq.{BackendReq}
use Rattle.vhost_message.specs.declared.backend_req.BackendReq.TheVariants.{CONFIG_CHANGE_MSG, SHARED_OBJECT_ADD, SHARED_OBJECT_REMOVE, SHARED_OBJECT_LOOKUP, SHMEM_MAP, SHMEM_UNMAP}
use Rattle.vhost_message.specs.declared.records.shared.VhostUserSharedMsg.{VhostUserSharedMsg}
use Rattle.vhost_message.specs.declared.records.shmem.VhostUserMMap.{VhostUserMMap}
use Rattle.vhost_message.specs.Header.{Header, is_reply_for}
use Rattle.vhost_message.specs.Records.{u64_at, mmap_of}
use Rattle.vhost_message.specs.Valid.{is_valid_mmap}
use Rattle.vhost_protocol.specs.Error.{Error, Raw, Named, InvalidMessage, SocketBroken, PartialMessage, FrontendInternalError, ReqHandlerError}
use Rattle.vhost_protocol.specs.IoError.{IoError, Because, Of, cause}
use Rattle.vhost_protocol.specs.Joined.{is_silent}
use Rattle.vhost_protocol.specs.ReplySplit.{Received, reply_split}
use Rattle.vhost_protocol.specs.Row.{is_bare, always, name_of, is_valid_name}
use Rattle.vhost_protocol.specs.Run.{Serves, Run}
use Rattle.vhost_protocol.specs.Served.{Served, Silent, Replied, reply, cells_of}
use Rattle.vhost_protocol.specs.Split.{Message, announced}
use Rattle.vhost_protocol.specs.Stream.{Cell, Item, has_some}
use Rattle.vhost_protocol.specs.Written.{Payload, Empty, U64, ObjectName, Mapping, Written}

-- two requests are allowed to come with exactly one handle, the others with none
abbrev pub backend_allows_handles : BackendReq → ℕ → Bool
backend_allows_handles SHARED_OBJECT_LOOKUP n = n == 1
backend_allows_handles SHMEM_MAP n = n == 1
backend_allows_handles _ n = n == 0

-- a call, from the device to the frontend's side
pub data ReverseCall (H : Type 0) : Type 0 where
  HandleConfigChange : ReverseCall H
  SharedObjectAdd : VhostUserSharedMsg → ReverseCall H
  SharedObjectRemove : VhostUserSharedMsg → ReverseCall H
  SharedObjectLookup : VhostUserSharedMsg → H → ReverseCall H
  ShmemMap : VhostUserMMap → H → ReverseCall H
  ShmemUnmap : VhostUserMMap → ReverseCall H

-- ---- the asking side

-- what the asking side remembers: its four flags, and the number of a failure
pub record Backend : Type 0 where
  pub reply_ack : Bool
  pub shared_object : Bool
  pub shmem : Bool
  pub config_change : Bool
  pub failed : Option ℤ

-- what becomes of a call: a refusal, or a message, and whether an answer is awaited
pub data ReverseAsked (H : Type 0) : Type 0 where
  Refuses : IoError → ReverseAsked H
  Sends : Written BackendReq H → (awaited : Bool) → ReverseAsked H

-- a session that did not fail sends, and wants an answer where the flag is on
abbrev pub sends_unless : {H : Type 0} → Option ℤ → Backend → BackendReq → Payload → List H → ReverseAsked H
sends_unless (Some e) b r payload handles = Refuses (Of (SocketBroken (Raw e)))
sends_unless None b r payload handles =
    Sends (record { request = r; reply = false; need_reply = b.reply_ack; payload = payload; handles = handles }) b.reply_ack

-- about a shared object: the feature, then no failure
abbrev pub sends_object : {H : Type 0} → Backend → BackendReq → VhostUserSharedMsg → List H → ReverseAsked H
sends_object b r name handles =
    if b.shared_object then sends_unless b.failed b r (ObjectName name) handles
    else Refuses (Because (Named (codes "Shared Object feature not negotiated")))

-- about shared memory: the feature, then no failure
abbrev pub sends_mapping : {H : Type 0} → Backend → BackendReq → VhostUserMMap → List H → ReverseAsked H
sends_mapping b r mapping handles =
    if b.shmem then sends_unless b.failed b r (Mapping mapping) handles
    else Refuses (Because (Named (codes "SHMEM feature not negotiated")))

-- what a call becomes
abbrev pub reverse_ask : {H : Type 0} → Backend → ReverseCall H → ReverseAsked H
reverse_ask b HandleConfigChange = if b.config_change then sends_unless b.failed b CONFIG_CHANGE_MSG Empty [] else Refuses (Because (Raw (pos 38)))
reverse_ask b (SharedObjectAdd name) = sends_object b SHARED_OBJECT_ADD name []
reverse_ask b (SharedObjectRemove name) = sends_object b SHARED_OBJECT_REMOVE name []
reverse_ask b (SharedObjectLookup name h) = sends_object b SHARED_OBJECT_LOOKUP name (h ∷ [])
reverse_ask b (ShmemMap mapping h) = sends_mapping b SHMEM_MAP mapping (h ∷ [])
reverse_ask b (ShmemUnmap mapping) = sends_mapping b SHMEM_UNMAP mapping []

-- the number of an answer: 0 is success
abbrev pub of_number : ℕ → Result ℕ IoError
of_number n = if n == 0 then Ok 0 else Err (Of FrontendInternalError)

-- the caller's answer, from whether one was awaited and what came; other pairs never come
abbrev pub reverse_answer : {H : Type 0} → (awaited : Bool) → Served H → Option (Result ℕ IoError)
reverse_answer false Silent = Some (Ok 0)
reverse_answer true Silent = Some (Err (Of PartialMessage))
reverse_answer true (Replied (U64 n) []) = Some (of_number n)
reverse_answer _ _ = None

-- what was received, for the header that was sent: the reply for it, without handles
abbrev pub reverse_understood : {H : Type 0} → (sent : Header) → Result (Received H) Error → Result ℕ IoError
reverse_understood sent (Err e) = Err (Of e)
reverse_understood sent (Ok r) =
    if is_reply_for backend_request_of r.header sent && not (has_some r.handles) then of_number (u64_at 0 r.body) else Err (Of InvalidMessage)

-- the caller's answer and the rest of the stream
abbrev pub reverse_take : {H : Type 0} → (awaited : Bool) → (sent : Header) → List (Cell H) → Result ℕ IoError × List (Cell H)
reverse_take false sent cells = (Ok 0, cells)
reverse_take true sent cells =
    let cut = reply_split (λ h. is_some (announced backend_request_of h)) 8 always 0 cells in
    (reverse_understood sent cut.0, cut.1)

-- ---- the serving side

-- what the serving side remembers
pub record Server : Type 0 where
  pub reply_ack : Bool
  pub failed : Option ℤ

-- the number that stands for an error: of a system's number its negative, in 64 bits; else that of 22
abbrev pub error_number : IoError → ℕ
error_number (Because (Raw (pos n))) = (2 ^ 64 - n) % 2 ^ 64
error_number (Because (Raw (negsuc n))) = if n == 2 ^ 31 - 1 then 2 ^ 64 - 22 else n + 1
error_number _ = 2 ^ 64 - 22

-- the number that stands for an answer
abbrev pub result_number : Result ℕ IoError → ℕ
result_number (Ok n) = n
result_number (Err e) = error_number e

-- what the server answers, and what it lets the asking side know
pub record ReverseOutcome (H : Type 0) : Type 0 where
  pub answer : Result ℕ Error
  pub served : Served H

-- a refusal, or one call of the device and what follows from its answer
pub data ReverseStep (H : Type 0) : Type 0 where
  Refused : ReverseOutcome H → ReverseStep H
  Calls : ReverseCall H → (Result ℕ IoError → ReverseOutcome H) → ReverseStep H

-- the answer's number, where the flag is on and the message wants it
abbrev pub number_back : {H : Type 0} → Server → Message BackendReq H → Result ℕ IoError → Served H
number_back s m answer = if s.reply_ack && m.need_reply then Replied (U64 (result_number answer)) [] else Silent

-- the device's answer, as the server hands it on
abbrev pub handed_on : Result ℕ IoError → Result ℕ Error
handed_on (Ok n) = Ok n
handed_on (Err e) = Err (ReqHandlerError (cause e))

-- what follows from an answer
abbrev pub with_number : {H : Type 0} → Server → Message BackendReq H → Result ℕ IoError → ReverseOutcome H
with_number s m answer = record { answer = handed_on answer; served = number_back s m answer }

-- a bad body is refused in silence
abbrev pub bad_body : {H : Type 0} → ReverseStep H
bad_body = Refused (record { answer = Err InvalidMessage; served = Silent })

-- a call with the name of an object
abbrev pub object_row : {H : Type 0} → Server → Message BackendReq H → (VhostUserSharedMsg → ReverseCall H) → ReverseStep H
object_row s m call = if is_bare 16 m && is_valid_name (name_of m.body) then Calls (call (name_of m.body)) (with_number s m) else bad_body

-- a call with a mapping
abbrev pub mapping_row : {H : Type 0} → Server → Message BackendReq H → (VhostUserMMap → ReverseCall H) → ReverseStep H
mapping_row s m call = if is_bare 40 m && is_valid_mmap (mmap_of m.body) then Calls (call (mmap_of m.body)) (with_number s m) else bad_body

-- with the one handle of the message, which was there before the body was read
abbrev pub with_one_handle : {H : Type 0} → List H → (H → ReverseStep H) → ReverseStep H
with_one_handle [] row = bad_body
with_one_handle (h ∷ hs) row = row h

-- the row of each request; a known one that is not served is acknowledged
abbrev pub reverse_row_of : {H : Type 0} → BackendReq → Server → Message BackendReq H → ReverseStep H
reverse_row_of CONFIG_CHANGE_MSG s m = if is_bare 0 m then Calls HandleConfigChange (with_number s m) else bad_body
reverse_row_of SHARED_OBJECT_ADD s m = object_row s m SharedObjectAdd
reverse_row_of SHARED_OBJECT_REMOVE s m = object_row s m SharedObjectRemove
reverse_row_of SHARED_OBJECT_LOOKUP s m = with_one_handle m.handles (λ h. object_row s m (λ name. SharedObjectLookup name h))
reverse_row_of SHMEM_MAP s m = with_one_handle m.handles (λ h. mapping_row s m (λ mapping. ShmemMap mapping h))
reverse_row_of SHMEM_UNMAP s m = mapping_row s m ShmemUnmap
reverse_row_of _ s m = Refused (record { answer = Err InvalidMessage; served = number_back s m (Err (Of InvalidMessage)) })

-- the row of a message
abbrev pub reverse_row : {H : Type 0} → Server → Message BackendReq H → ReverseStep H
reverse_row s m = reverse_row_of m.request s m

-- the device of this side is a relation, too
module _ {H Dev : Type 0} (gives : Dev → ReverseCall H → Result ℕ IoError → Dev → Type 0) where
  -- a refusal changes nothing; a call moves the device by its own relation, once
  abbrev pub ReverseFollows : Dev → ReverseStep H → ReverseOutcome H → Dev → Type 0
  ReverseFollows d (Refused o') o d' = (o ≡ o') × (d' ≡ d)
  ReverseFollows d (Calls c next) o d' = (a : Result ℕ IoError) × gives d c a d' × (o ≡ next a)

  -- the row of a message, with the text of what is written
  abbrev pub ReverseMeets : Server → Dev → Message BackendReq H → Result ℕ Error → List (Cell H) → Server → Dev → Type 0
  ReverseMeets s d m answer written s' d' = (o : ReverseOutcome H) × ReverseFollows d (reverse_row s m) o d'
      × (answer ≡ o.answer) × (written ≡ cells_of backend_request_number (reply m.request o.served)) × (s' ≡ s)

  -- one call of `handle_request`
  abbrev pub HandlesReverse : Server → Dev → List (Item H) → Result ℕ Error → List (Cell H) → Server → Dev → Type 0
  HandlesReverse = Serves (λ _. backend_request_of) backend_allows_handles (λ s. s.failed) ReverseMeets

  -- many calls of it
  abbrev pub HandlesReverses : Server → Dev → List (Result ℕ Error) → List (Item H) → List (Cell H) → Server → Dev → Type 0
  HandlesReverses = Run (λ _. backend_request_of) backend_allows_handles (λ s. s.failed) ReverseMeets

-- the last step of a joined run: an error in silence
abbrev pub is_reverse_last : {H : Type 0} → ReverseOutcome H → Bool
is_reverse_last o = is_err o.answer && is_silent o.served
