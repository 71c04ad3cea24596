-- A request is read, and answered.
use Rattle.std.specs.Prelude.{◌≡◌, ℕ, ◌+◌, ◌<◌, ◌≤◌, List, ◌++◌, take, length, Some, None, Option, Bool, true, false, ◌&&◌, ◌⊎◌, not, is_some, IsTrue, Result, Ok, Err, Vec, ⊤}
use Rattle.std.specs.Global.{Global}
use Rattle.vhost_message.specs.declared.cause.IoCause.{IoCause}
use Rattle.vhost_message.specs.Cause.{is_retry, error_of}
use Rattle.vhost_message.specs.declared.error.Error as declared
use Rattle.vhost_message.specs.declared.header.VhostUserMsgHeader.{VhostUserMsgHeader}
use Rattle.vhost_message.specs.declared.limits.TheConstants.{MAX_MSG_TEXT}
use Rattle.vhost_message.specs.Bits.{has_bit}
use Rattle.vhost_message.specs.Header.{header_of, header_text, is_valid_header}
use Rattle.vhost_message.specs.MsgHeader.{fields_of, of_fields}
use Rattle.vhost_protocol.specs.Error.{Error, seen, seen_result}
use Rattle.vhost_protocol.specs.Split.{Message, Splits, split}
use Rattle.vhost_protocol.specs.Stream.{Cell, bytes, carrying, has_some, items}
use Rattle.vhost_link.specs.Law.{Event}
use Rattle.vhost_connection.specs.declared.request.Request.{Request}
use Rattle.vhost_connection.specs.Pass.{receives, sends}
use Rattle.vhost_connection.specs.Talk.{State, Fell, Serves, Trouble, First}
use Rattle.vhost_connection.specs.Calls.{HandsOver, IsHeader}
use Rattle.vhost_connection.specs.Came.{Came, Begins}
use Rattle.vhost_connection.specs.Hearing.{Hears}

-- ---- in

-- The request in the code's form, with its body at the front of these bytes, is this message.
pub record Reads {R H : Type 0} (bytes : List ℕ) (request : Request R) (m : Message R H) : Type 0 where
  pub code : request.code ≡ m.request
  pub reply : request.reply ≡ m.reply
  pub need_reply : request.need_reply ≡ m.need_reply
  pub len : request.len ≡ length m.body
  pub body : take request.len bytes ≡ m.body

-- These bytes begin with a request that is there whole, and that may come without handles.
pub record WaitsWhole {R : Type 0} (request_of : ℕ → Option R) (allowed : R → ℕ → Bool) (bytes : List ℕ) (request : Request R) : Type 0 where
  pub head : 12 ≤ length bytes
  pub valid : is_valid_header (header_of (take 12 bytes)) ≡ true
  pub code : request_of (header_of (take 12 bytes)).code ≡ Some request.code
  pub allows : allowed request.code 0 ≡ true
  pub reply : request.reply ≡ has_bit (header_of (take 12 bytes)).flags 2
  pub need_reply : request.need_reply ≡ has_bit (header_of (take 12 bytes)).flags 3
  pub len : request.len ≡ (header_of (take 12 bytes)).size
  pub whole : 12 + request.len ≤ length bytes

module _ {R L H : Type 0} (event : L → Event H → L → Type 0) (request_of : ℕ → Option R) (allowed : R → ℕ → Bool) where
  -- A message was read, and nothing else of the stream. The endpoint has given its list of handles away only where there were some.
  pub record ReadsMessage (old : State L H) (request : Request R) (handles : Option (Vec H Global)) (bytes : List ℕ) (new : State L H) : Type 0 where
    pub message : Message R H
    pub reads : Reads bytes request message
    pub hands : HandsOver handles message.handles
    pub hears : Hears event (split request_of allowed) old (Ok message) new
    pub list : new.list ≡ not (has_some message.handles)

  -- The stream has no message there.
  pub record ReadsNone (old : State L H) (e : Error) (new : State L H) : Type 0 where
    pub hears : Hears event (split request_of allowed) old (Err e) new
    pub list : new.list ≡ true

  -- There was trouble before a whole message was read: these cells came, and had the stream ended there, it would have been none.
  pub record ReadsInPart (old : State L H) (e : declared.Error) (new : State L H) : Type 0 where
    pub cells : List (Cell H)
    pub retries : ℕ
    pub none : Error
    pub short : Splits (split request_of allowed) cells true (Err none)
    pub trouble : Trouble event old old.budget First false (receives (items cells) retries) e new

  -- one request is read, with its handles, or why not
  abbrev pub ReadsRequest : State L H → Result (Request R × Option (Vec H Global)) declared.Error → List ℕ → State L H → Type 0
  ReadsRequest old (Ok x) bytes new = ReadsMessage old x.0 x.1 bytes new
  ReadsRequest old (Err e) bytes new = ReadsNone old (seen e) new ⊎ ReadsInPart old e new

-- The header of a request came, with these handles; the list of handles is away.
abbrev pub RequestHead : {R L H : Type 0} → (L → Event H → L → Type 0) → (ℕ → Option R) → State L H → VhostUserMsgHeader R → List H → State L H → Type 0
RequestHead {H} event request_of old header hs new = (cs : List (Cell H)) × (Came event old Begins 12 cs false new
    × IsHeader (λ bs. of_fields (header_of bs)) (λ h. is_some (request_of (fields_of h).code) && is_valid_header (fields_of h)) (λ given first. given ≡ first) cs (header, hs))

module _ {R L H : Type 0} (event : L → Event H → L → Type 0) (request_of : ℕ → Option R) (allowed : R → ℕ → Bool) where
  -- Behind the header of a request its body is read, while the list of handles is away.
  abbrev pub ReadsBehind : State L H → List H → Result (Request R) declared.Error → List ℕ → State L H → Type 0
  ReadsBehind old hs (Ok request) bytes new = (m : Message R H) × Reads bytes request m × (m.handles ≡ hs) × Hears event (split request_of allowed) old (Ok m) new × (new.list ≡ false)
  ReadsBehind old hs (Err e) bytes new = ReadsNone event request_of allowed old (seen e) (record new { list = true }) ⊎ ReadsInPart event request_of allowed old e (record new { list = true })

-- ---- out

-- the reply to a request, with the handles on the first byte
abbrev pub reply_text : {R H : Type 0} → (R → ℕ) → R → List H → List ℕ → List (Cell H)
reply_text number code handles text = carrying handles (header_text (record { code = number code; flags = 5; size = length text }) ++ text)

-- the endpoint has read a message, and can reply to it
pub record IsReady {L H : Type 0} (endpoint : State L H) : Type 0 where
  pub broken : endpoint.broken ≡ None
  pub faulted : endpoint.faulted ≡ false

-- The cells went out, all of them.
pub record Replies {L H : Type 0} (event : L → Event H → L → Type 0) (old : State L H) (cells : List (Cell H)) (new : State L H) : Type 0 where
  pub retries : ℕ
  pub serves : Serves event old old.budget (sends cells retries) new
  pub list : new.list ≡ old.list

-- A fault stopped them, or one retry too many, and this broke the endpoint.
pub record Stops {L H : Type 0} (event : L → Event H → L → Type 0) (old : State L H) (cells : List (Cell H)) (e : declared.Error) (new : State L H) : Type 0 where
  pub cause : IoCause
  pub error : e ≡ error_of cause
  -- so many had gone out, after so many retries
  pub count : ℕ
  pub retries : ℕ
  pub fell : Fell event old (sends (take count cells) retries) cause new
  pub before : old.broken ≡ None
  pub within : retries ≤ old.budget
  pub spent : IsTrue (is_retry cause) → retries ≡ old.budget
  pub short : count < length cells
  pub few : length cells ≤ MAX_MSG_TEXT
  pub broken : new.broken ≡ Some cause
  pub faulted : new.faulted ≡ true
  pub list : old.list ≡ true → new.list ≡ true

-- A side lets its peer know of its answer, and gives that as the result; or a fault stops it.
pub data Tells {L H : Type 0} (event : L → Event H → L → Type 0) (old : State L H) (cells : List (Cell H)) (answer : Result ⊤ Error) : Result ⊤ declared.Error → State L H → Type 0 where
  whole : {result : Result ⊤ declared.Error} {new : State L H} → answer ≡ seen_result result → Replies event old cells new → Tells event old cells answer result new
  stopped : {e : declared.Error} {new : State L H} → Stops event old cells e new → Tells event old cells answer (Err e) new
