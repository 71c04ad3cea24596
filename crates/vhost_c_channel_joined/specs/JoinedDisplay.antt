-- A session with a display, joined to any display: what it hands out comes to the display's end of the connection, and what the display writes comes back, both in any pieces.
use Rattle.std.specs.Prelude.{◌≡◌, ◌⊎◌, ◌<◌, ◌≤◌, ◌+◌, ℕ, Bool, true, false, List, [], ◌∷◌, ◌++◌, length, take, map, flat_map, nat_lt, Option, Some, None, Result, Ok, Err, ⊤, if◌then◌else◌}
use Rattle.vhost_message.specs.Header.{header_of}
use Rattle.vhost_message.specs.Records.{u64_at}
use Rattle.vhost_message.specs.declared.error.Error as declared
use Rattle.vhost_message.specs.declared.error.Error.TheVariants.{InvalidMessage, OversizedMsg, OutOfMemory, SocketRetry}
use Rattle.vhost_message.specs.declared.limits.TheConstants.{MAX_MSG_SIZE, MSG_HEADER_SIZE}
use Rattle.vhost_gpu_message.specs.Replies.{display_info_of, display_info_text, edid_of, edid_text}
use Rattle.vhost_gpu_message.specs.declared.limits.TheConstants.{MAX_GPU_MSG_SIZE}
use Rattle.vhost_protocol.specs.Error.{seen}
use Rattle.vhost_protocol.specs.Gpu.{GpuReply, GpuSent, TheFeatures, TheDisplayInfo, TheEdid, TheEmpty, gpu_row, gpu_head, gpu_cells, gpu_record_size, gpu_take}
use Rattle.vhost_protocol.specs.IoError.{IoError, In}
use Rattle.vhost_protocol.specs.Stream.{Cell, carrying, plain}
use Rattle.vhost_link.specs.declared.plain.PlainHandle.{PlainHandle}
use Rattle.vhost_gpu_backend_req.specs.Halves.{Keeps, call_in, pixels_of}
use Rattle.vhost_gpu_backend_req.specs.declared.call.Awaited.{Awaited}
use Rattle.vhost_c_common.specs.Memory as memory
use Rattle.vhost_c_common.specs.Records.{fd_in, handle_in}
use Rattle.vhost_c_common.specs.View.{Hands, Waits}
use Rattle.vhost_c_common.specs.declared.refusal.Refusal.{Refusal}
use Rattle.vhost_c_common.specs.declared.refusal.Refusal.TheVariants.{Protocol}
use Rattle.vhost_c_channel.specs.Display.{arrived, endpoint_of, mark_of, missing_of, queued, view}
use Rattle.vhost_c_channel.specs.declared.display.Display.{Display}
use Rattle.vhost_c_channel_joined.specs.declared.joined_display.DisplayAnswer.{DisplayAnswer}
use Rattle.vhost_c_channel_joined.specs.declared.joined_display.DisplayAnswer.TheVariants.{Nothing, Features, DisplayInfo, Edid}
use Rattle.vhost_c_channel_joined.specs.declared.wire.Halt.{Halt}
use Rattle.vhost_c_channel_joined.specs.declared.wire.Halt.TheVariants as halt
use Rattle.vhost_c_channel_joined.specs.declared.joined_display.Turn.{Turn}

-- ---- a call

-- what it sends, and what it awaits
abbrev pub row_of : Turn → GpuSent PlainHandle
row_of t = gpu_row (call_in t.call t.pixels.now)

-- each of them stands for a descriptor
abbrev pub AreDescriptors : List PlainHandle → Type 0
AreDescriptors handles = map (λ h. handle_in (fd_in h)) handles ≡ map Some handles

-- There are as many pixels as the call says, and its handle, if any, stands for a descriptor.
pub record IsAllowed (t : Turn) : Type 0 where
  pub pixels : length t.pixels.now ≡ pixels_of t.call
  pub handles : AreDescriptors (row_of t).handles

-- a header can say how long its body is
abbrev pub Fits : Turn → Type 0
Fits t = (gpu_head (row_of t)).size ≤ MAX_GPU_MSG_SIZE

-- the message of a call: its bytes, with its descriptors on the first; none where no header can say how long it is
abbrev pub message_of : Turn → List (Cell PlainHandle)
message_of t = if nat_lt MAX_GPU_MSG_SIZE (gpu_head (row_of t)).size then [] else gpu_cells (row_of t)

-- ---- its reply

-- how long a body it announces
abbrev pub announced : List ℕ → ℕ
announced reply = (header_of (take MSG_HEADER_SIZE reply)).size

-- how many bytes of it are read: the header, and the body that this announces, unless that is longer than a message may have
abbrev pub read_of : List ℕ → ℕ
read_of reply = MSG_HEADER_SIZE + (if nat_lt MAX_MSG_SIZE (announced reply) then 0 else announced reply)

-- the same by what is awaited: none, where no reply is
abbrev pub read_for : Option (Option Awaited) → List ℕ → ℕ
read_for (Some (Some awaited)) reply = read_of reply
read_for asked reply = 0

-- bytes of it are missing: of the header, or of what this announces
abbrev pub IsShort : List ℕ → Type 0
IsShort reply = (length reply < MSG_HEADER_SIZE) ⊎ (length reply < read_of reply)

-- the value of a record
abbrev pub value_of : GpuReply → List ℕ → DisplayAnswer
value_of TheFeatures body = Features (u64_at 0 body)
value_of TheDisplayInfo body = DisplayInfo (display_info_text (display_info_of body))
value_of TheEdid body = Edid (edid_text (edid_of body))
value_of TheEmpty body = Nothing

-- the answer table's answer: the value of the record, or the error by its name
abbrev pub Tells : GpuReply → Result (List ℕ) IoError → Result DisplayAnswer Refusal → Type 0
Tells shape (Ok body) outcome = outcome ≡ Ok (value_of shape body)
Tells shape (Err (In place e)) outcome = (d : declared.Error) × (seen d ≡ e) × (outcome ≡ Err (Protocol d))
Tells shape (Err e) outcome = ⊥

-- What is answered for a reply whose record is awaited: one that announces another size is refused; else it is what the table answers to exactly these bytes.
pub data AnswersBy (sent : GpuSent PlainHandle) (shape : GpuReply) (reply : List ℕ) (outcome : Result DisplayAnswer Refusal) : Type 0 where
  misfits : ¬ (announced reply ≡ gpu_record_size shape) → outcome ≡ Err (Protocol InvalidMessage) → AnswersBy sent shape reply outcome
  told : announced reply ≡ gpu_record_size shape → Tells shape (gpu_take {H = PlainHandle} (Some shape) (gpu_head sent) (plain (take (read_of reply) reply))).0 outcome → AnswersBy sent shape reply outcome

-- What a call that was sent is answered: nothing, where it awaits no reply; or by the bytes that came.
pub data AnswersSent (sent : GpuSent PlainHandle) (reply : List ℕ) (outcome : Result DisplayAnswer Refusal) : Type 0 where
  unawaited : sent.awaited ≡ None → outcome ≡ Ok Nothing → AnswersSent sent reply outcome
  replied : (shape : GpuReply) → sent.awaited ≡ Some shape → read_of reply ≤ length reply → AnswersBy sent shape reply outcome → AnswersSent sent reply outcome

-- What a call is answered. Nothing was sent where it has too many pixels.
pub data Answers (t : Turn) (outcome : Result DisplayAnswer Refusal) : Type 0 where
  too_long : MAX_GPU_MSG_SIZE < (gpu_head (row_of t)).size → outcome ≡ Err (Protocol OversizedMsg) → Answers t outcome
  went : Fits t → AnswersSent (row_of t) t.reply.now outcome → Answers t outcome

-- ---- the session

-- Nothing is left of the calls before: nothing is to be sent, nothing waits, nothing is asked; and nothing broke the session.
pub record IsIdle (s : Display) : Type 0 where
  pub queue : queued s ≡ []
  pub came : arrived s ≡ []
  pub asked : s.asked ≡ None
  pub mark : mark_of s ≡ None
  pub sound : (endpoint_of s).broken ≡ None
  pub uncut : (endpoint_of s).link.script ≡ []

-- why a call was not done: memory was refused; or a reply is awaited, and the display wrote too few bytes
abbrev pub Halts : Turn → Halt → Type 0
Halts t (halt.WantsMemory r) = memory.WantsMemory r
Halts t halt.Silent = (shape : GpuReply) × ((row_of t).awaited ≡ Some shape) × IsShort t.reply.now

-- what becomes of a call: exactly its message came to the display, it is answered, and nothing of it is left; or not
abbrev pub Does : Turn → List (Cell PlainHandle) → Result (Result DisplayAnswer Refusal) Halt → Display → List (Cell PlainHandle) → Type 0
Does t before (Ok outcome) s after = Answers t outcome × (after ≡ before ++ message_of t) × IsIdle s
Does t before (Err h) s after = Halts t h

-- ---- many calls

-- each call is answered by its outcome
abbrev pub AllAnswer : List Turn → List (Result DisplayAnswer Refusal) → Type 0
AllAnswer [] [] = ⊤
AllAnswer (t ∷ turns) (o ∷ outcomes) = Answers t o × AllAnswer turns outcomes
AllAnswer turns outcomes = ⊥

-- Each call is answered, exactly their messages came to the display, and nothing is left of them.
pub record AreDone (turns : List Turn) (before : List (Cell PlainHandle)) (s : Display) (after : List (Cell PlainHandle)) (outcomes : List (Result DisplayAnswer Refusal)) : Type 0 where
  pub answered : AllAnswer turns outcomes
  pub sent : after ≡ before ++ flat_map message_of turns
  pub idle : IsIdle s

-- The calls before one whose reply was too short are answered.
pub record UpTo (turns : List Turn) (answered : List (Result DisplayAnswer Refusal)) : Type 0 where
  pub before : List Turn
  pub turn : Turn
  pub later : List Turn
  pub all : turns ≡ before ++ turn ∷ later
  pub outcomes : AllAnswer before answered
  pub halts : Halts turn halt.Silent

-- why calls of a new session were not all done: memory was refused; or the reply of one was too short
abbrev pub HaltsRun : List Turn → Halt → Type 0
HaltsRun turns (halt.WantsMemory r) = memory.WantsMemory r
HaltsRun turns halt.Silent = (answered : List (Result DisplayAnswer Refusal)) × UpTo turns answered

-- what becomes of calls
abbrev pub DoesAll : List Turn → List (Cell PlainHandle) → List (Result DisplayAnswer Refusal) → Result ⊤ Halt → Display → List (Cell PlainHandle) → List (Result DisplayAnswer Refusal) → Type 0
DoesAll turns before answers (Ok done) s after answers' = (outcomes : List (Result DisplayAnswer Refusal)) × (answers' ≡ answers ++ outcomes) × AreDone turns before s after outcomes
DoesAll turns before answers (Err (halt.WantsMemory r)) s after answers' = memory.WantsMemory r
DoesAll turns before answers (Err halt.Silent) s after answers' = (outcomes : List (Result DisplayAnswer Refusal)) × (answers' ≡ answers ++ outcomes) × UpTo turns outcomes

-- ---- a message goes out

-- each byte's handles stand for descriptors
abbrev pub AreSendable : List (Cell PlainHandle) → Type 0
AreSendable [] = ⊤
AreSendable (c ∷ cs) = AreDescriptors c.handles × AreSendable cs

-- bytes came to an end of the connection, with these handles on the first; or memory was refused
abbrev pub Shows : List PlainHandle → List ℕ → List (Cell PlainHandle) → Result ⊤ Halt → List (Cell PlainHandle) → Type 0
Shows handles bytes before (Ok done) after = after ≡ before ++ carrying handles bytes
Shows handles bytes before (Err (halt.WantsMemory r)) after = memory.WantsMemory r
Shows handles bytes before (Err halt.Silent) after = ⊥

-- A part of what was to be sent came to the display, or nothing did; nothing else changed.
pub record Moves (before : List (Cell PlainHandle)) (old : Display) (after : List (Cell PlainHandle)) (new : Display) : Type 0 where
  pub whole : after ++ queued new ≡ before ++ queued old
  pub sendable : AreSendable (queued new)
  pub hands : Hands (view old) (view new)

-- a piece did; or nothing was left
abbrev pub SendsPiece : List (Cell PlainHandle) → Display → Result Bool Halt → List (Cell PlainHandle) → Display → Type 0
SendsPiece before old (Ok true) after new = Moves before old after new
SendsPiece before old (Ok false) after new = Moves before old after new × (queued new ≡ [])
SendsPiece before old (Err (halt.WantsMemory r)) after new = memory.WantsMemory r
SendsPiece before old (Err halt.Silent) after new = ⊥

-- all did
abbrev pub Sends : List (Cell PlainHandle) → Display → Result ⊤ Halt → List (Cell PlainHandle) → Display → Type 0
Sends before old (Ok done) after new = Moves before old after new × (queued new ≡ [])
Sends before old (Err (halt.WantsMemory r)) after new = memory.WantsMemory r
Sends before old (Err halt.Silent) after new = ⊥

-- ---- a reply comes

-- So many bytes of it came, no more than are read, and nothing else changed.
pub record IsComing (reply : List ℕ) (at : ℕ) (old new : Display) : Type 0 where
  pub within : at ≤ length reply
  pub few : at ≤ read_for new.asked reply
  pub came : arrived new ≡ plain (take at reply)
  pub count : new.incoming.count ≡ at
  pub head : take at new.incoming.head ≡ take MSG_HEADER_SIZE (take at reply)
  pub waits : Waits (view old) (view new)

-- all of it that is read came; or all that there is, and that is too little
abbrev pub Comes : List ℕ → Display → Result ⊤ Halt → Display → Type 0
Comes reply old (Ok done) new = (at : ℕ) × IsComing reply at old new × (missing_of new ≡ 0)
Comes reply old (Err (halt.WantsMemory r)) new = memory.WantsMemory r
Comes reply old (Err halt.Silent) new = IsComing reply (length reply) old new × (0 < missing_of new)

-- A call was sent, nothing is to be sent any more, and of its reply all came that is read.
pub record IsHeard (sent : GpuSent PlainHandle) (reply : List ℕ) (s : Display) : Type 0 where
  pub kept : Option Awaited
  pub keeps : Keeps sent kept
  pub asked : s.asked ≡ Some kept
  pub queue : queued s ≡ []
  pub mark : mark_of s ≡ None
  pub sound : (endpoint_of s).broken ≡ None
  pub uncut : (endpoint_of s).link.script ≡ []
  pub whole : missing_of s ≡ 0
  pub at : ℕ
  pub coming : IsComing reply at s s

-- it is answered, and nothing is left; or memory was refused
abbrev pub Takes : GpuSent PlainHandle → List ℕ → Result (Result DisplayAnswer Refusal) Halt → Display → Type 0
Takes sent reply (Ok outcome) new = AnswersSent sent reply outcome × IsIdle new
Takes sent reply (Err (halt.WantsMemory r)) new = memory.WantsMemory r
Takes sent reply (Err halt.Silent) new = ⊥

-- memory was refused
abbrev pub is_want : Refusal → Bool
is_want (Protocol OutOfMemory) = true
is_want (Protocol (SocketRetry c)) = true
is_want r = false

-- a refusal is an answer, but where memory was refused
abbrev pub halted : Refusal → Result (Result DisplayAnswer Refusal) Halt
halted r = if is_want r then Err (halt.WantsMemory r) else Ok (Err r)
