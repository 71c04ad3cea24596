-- What the half of a frontend's call does that takes the answer.
use Rattle.std.specs.Prelude.{◌≡◌, ℕ, ◌+◌, ◌*◌, List, [], ◌∷◌, length, Option, Some, Bool, true, false, ◌&&◌, ◌==◌, ⊤, Result, Ok, Err, Vec, if◌then◌else◌}
use Rattle.std.specs.Global.{Global}
use Rattle.vhost_message.specs.declared.error.Error as declared
use Rattle.vhost_message.specs.declared.error.Error.TheVariants as code
use Rattle.vhost_message.specs.declared.limits.TheConstants.{MEMORY_HEAD_SIZE, MEMORY_REGION_SIZE}
use Rattle.vhost_message.specs.Bits.{has_bit}
use Rattle.vhost_message.specs.HeardReq.{request_of}
use Rattle.vhost_message.specs.Header.{Header}
use Rattle.vhost_message.specs.Records.{u64_at, memory_of}
use Rattle.vhost_message.specs.Valid.{is_valid_memory}
use Rattle.vhost_protocol.specs.Stream.{Cell, has_some}
use Rattle.vhost_protocol.specs.Error.{Error, InvalidMessage, BackendInternalError, seen}
use Rattle.vhost_protocol.specs.FrontendCall.{FrontendCall, Frontend, Value}
use Rattle.vhost_protocol.specs.declared.asked.Awaited.{Awaited}
use Rattle.vhost_protocol.specs.declared.asked.Awaited.TheVariants.{Nobody, Ack}
use Rattle.vhost_protocol.specs.AnswerTable.{Answered, answered, with_one}
use Rattle.vhost_protocol.specs.declared.profile.Profile.{Profile}
use Rattle.vhost_protocol.specs.ReplySplit.{Received, split_by, whole_split}
use Rattle.vhost_protocol.specs.Take.{is_known, take}
use Rattle.vhost_link.specs.Law.{Event}
use Rattle.vhost_connection.specs.Talk.{State}
use Rattle.vhost_connection.specs.Asking as asking
use Rattle.vhost_connection.specs.Calls.{HandsOver}
use Rattle.vhost_connection.specs.Hearing.{HearsReply, Fails}

-- a reply on a stream, with a record of so many bytes and room for so much payload
abbrev pub reply_cut : {H : Type 0} → Profile → (size : ℕ) → (List ℕ → Bool) → (room : ℕ) → List (Cell H) → Result (Received H) Error × List (Cell H)
reply_cut profile size valid room cells = split_by is_known profile size valid room cells

-- a result, as a value of the definitions
abbrev pub valued : {A H : Type 0} → (A → Value H) → Result A declared.Error → Result (Value H) Error
valued value (Ok a) = Ok (value a)
valued value (Err e) = Err (seen e)

-- the one handle that came; where none says that there is no such thing, the backend failed
abbrev pub one_unless : {H A : Type 0} → (says_none : Bool) → List H → (H → A) → Result A Error
one_unless says_none [] value = Err (if says_none then BackendInternalError else InvalidMessage)
one_unless says_none (h ∷ hs) value = with_one (h ∷ hs) value

-- a reply of a table has so many regions, as its header, its head and its bytes say
abbrev pub is_table : {H : Type 0} → (count : ℕ) → Received H → Bool
is_table count r = r.header.size == MEMORY_HEAD_SIZE + MEMORY_REGION_SIZE * count && (memory_of r.body).num_regions == count && length r.payload == MEMORY_REGION_SIZE * count

module _ {L H : Type 0} (event : L → Event H → L → Type 0) (profile : Profile) where
  -- The reply for a request came.
  abbrev pub Comes : (size : ℕ) → (List ℕ → Bool) → (room : ℕ) → State L H → Header → Received H → State L H → Type 0
  Comes size valid room = asking.Comes event request_of (reply_cut profile size valid room)

  -- None came.
  abbrev pub Missing : (size : ℕ) → (List ℕ → Bool) → (room : ℕ) → State L H → Header → declared.Error → State L H → Type 0
  Missing size valid room = asking.Missing event request_of (reply_cut profile size valid room)

  -- A reply is received: its record, and its handles.
  abbrev pub Recvs : {T : Type 0} → ℕ → (List ℕ → T) → (T → Bool) → State L H → Header → Result (T × Option (Vec H Global)) declared.Error → State L H → Type 0
  Recvs size read valid old sent (Ok x) new = (reply : Received H) × Comes size (λ bs. valid (read bs)) 0 old sent reply new × (x.0 ≡ read reply.body) × (valid x.0 ≡ true) × HandsOver x.1 reply.handles
  Recvs size read valid old sent (Err e) new = Missing size (λ bs. valid (read bs)) 0 old sent e new

  -- The same to a request that may have been sent as a reply: then it has none.
  pub data Awaits {T : Type 0} (size : ℕ) (read : List ℕ → T) (valid : T → Bool) (old : State L H) (sent : Header) : Result (T × Option (Vec H Global)) declared.Error → State L H → Type 0 where
    is_reply : has_bit sent.flags 2 ≡ true → Awaits size read valid old sent (Err code.InvalidParam) old
    is_request : {result : Result (T × Option (Vec H Global)) declared.Error} {new : State L H} → has_bit sent.flags 2 ≡ false → Recvs size read valid old sent result new → Awaits size read valid old sent result new

  -- The same of a reply that has no handle.
  pub data AwaitsAlone {T : Type 0} (size : ℕ) (read : List ℕ → T) (valid : T → Bool) (old : State L H) (sent : Header) : Result T declared.Error → State L H → Type 0 where
    alone : (reply : Received H) {t : T} {new : State L H} → has_bit sent.flags 2 ≡ false → Comes size (λ bs. valid (read bs)) 0 old sent reply new → t ≡ read reply.body → valid t ≡ true → reply.handles ≡ []
        → AwaitsAlone size read valid old sent (Ok t) new
    crowded : (reply : Received H) {new : State L H} → has_bit sent.flags 2 ≡ false → Comes size (λ bs. valid (read bs)) 0 old sent reply new → has_some reply.handles ≡ true
        → AwaitsAlone size read valid old sent (Err code.InvalidMessage) new
    absent : {e : declared.Error} {new : State L H} → Awaits size read valid old sent (Err e) new → AwaitsAlone size read valid old sent (Err e) new

  -- An acknowledgement is received: 0 is success.
  pub data RecvsAck (old : State L H) (sent : Header) : Result ⊤ declared.Error → State L H → Type 0 where
    agreed : (reply : Received H) {new : State L H} → Comes 8 (λ bs. true) 0 old sent reply new → u64_at 0 reply.body ≡ 0 → reply.handles ≡ [] → RecvsAck old sent (Ok tt) new
    refused : (reply : Received H) {new : State L H} → Comes 8 (λ bs. true) 0 old sent reply new → (u64_at 0 reply.body == 0) ≡ false → reply.handles ≡ [] → RecvsAck old sent (Err code.BackendInternalError) new
    crowded_ack : (reply : Received H) {new : State L H} → Comes 8 (λ bs. true) 0 old sent reply new → has_some reply.handles ≡ true → RecvsAck old sent (Err code.InvalidMessage) new
    unacked : {e : declared.Error} {new : State L H} → Missing 8 (λ bs. true) 0 old sent e new → RecvsAck old sent (Err e) new

  -- The same, where one is awaited.
  pub data Acks (old : State L H) (sent : Header) (asked : Awaited) : Result ⊤ declared.Error → State L H → Type 0 where
    unasked : asked ≡ Nobody → Acks old sent asked (Ok tt) old
    asked_for : {result : Result ⊤ declared.Error} {new : State L H} → (asked ≡ Nobody → ⊥) → RecvsAck old sent result new → Acks old sent asked result new

  -- A reply with a table of so many regions and without a handle is received: their bytes lie in the room.
  pub data RecvsTable (count : ℕ) (old : State L H) (sent : Header) : Result ⊤ declared.Error → List ℕ → State L H → Type 0 where
    table : (reply : Received H) {after : List ℕ} {new : State L H} → Comes MEMORY_HEAD_SIZE (λ bs. is_valid_memory (memory_of bs)) (MEMORY_REGION_SIZE * count) old sent reply new → is_table count reply ≡ true → reply.handles ≡ [] → after ≡ reply.payload
        → RecvsTable count old sent (Ok tt) after new
    no_table : (reply : Received H) {after : List ℕ} {new : State L H} → Comes MEMORY_HEAD_SIZE (λ bs. is_valid_memory (memory_of bs)) (MEMORY_REGION_SIZE * count) old sent reply new → is_table count reply ≡ false
        → RecvsTable count old sent (Err code.InvalidMessage) after new
    crowded_table : (reply : Received H) {after : List ℕ} {new : State L H} → Comes MEMORY_HEAD_SIZE (λ bs. is_valid_memory (memory_of bs)) (MEMORY_REGION_SIZE * count) old sent reply new → is_table count reply ≡ true → has_some reply.handles ≡ true
        → RecvsTable count old sent (Err code.InvalidMessage) after new
    missing : {e : declared.Error} {after : List ℕ} {new : State L H} → Missing MEMORY_HEAD_SIZE (λ bs. is_valid_memory (memory_of bs)) (MEMORY_REGION_SIZE * count) old sent e new → RecvsTable count old sent (Err e) after new

-- A reply of any size for a request is received; it has no handle. To a request that was sent as a reply there is none.
pub data AwaitsAny {L H : Type 0} (event : L → Event H → L → Type 0) (old : State L H) (sent : Header) : Result ⊤ declared.Error → State L H → Type 0 where
  any_for_reply : has_bit sent.flags 2 ≡ true → AwaitsAny event old sent (Err code.InvalidParam) old
  any : (reply : Received H) {new : State L H} → has_bit sent.flags 2 ≡ false → asking.Comes event request_of (whole_split is_known) old sent reply new → reply.handles ≡ [] → AwaitsAny event old sent (Ok tt) new
  any_crowded : (reply : Received H) {new : State L H} → has_bit sent.flags 2 ≡ false → asking.Comes event request_of (whole_split is_known) old sent reply new → has_some reply.handles ≡ true → AwaitsAny event old sent (Err code.InvalidMessage) new
  any_missing : {e : declared.Error} {new : State L H} → has_bit sent.flags 2 ≡ false → asking.Missing event request_of (whole_split is_known) old sent e new → AwaitsAny event old sent (Err e) new

-- an acknowledgement, or nothing, is awaited
abbrev pub IsAck : Awaited → Type 0
IsAck Nobody = ⊤
IsAck Ack = ⊤
IsAck _ = ⊥

module _ {L H : Type 0} (event : L → Event H → L → Type 0) (call : FrontendCall H) where
  -- An answer is taken: nothing is read for it, or what is read decides; then the endpoint has its list of handles unless a handle came.
  pub data Reads (asked : Awaited) (sent : Header) (f : Frontend) (old : State L H) : Option (Answered H) → State L H → Type 0 where
    unread : {x : Option (Answered H)} → ((cells : List (Cell H)) → take call asked sent f cells ≡ (x, cells)) → Reads asked sent f old x old
    read : {x : Option (Answered H)} {new : State L H} → HearsReply event (take call asked sent f) old x new → Reads asked sent f old x new

  -- The half that takes: the answer by the stream; or the link failed, and the session is as before.
  pub data Takes {A : Type 0} (value : A → Value H) (asked : Awaited) (sent : Header) (old : State L H) (f : Frontend) : Result A declared.Error → State L H → Frontend → Type 0 where
    taken : {result : Result A declared.Error} {new : State L H} {f' : Frontend} → Reads asked sent f old (Some (answered f' (valued value result))) new → Takes value asked sent old f result new f'
    stopped : {e : declared.Error} {new : State L H} → Fails event old true e new → Takes value asked sent old f (Err e) new f
