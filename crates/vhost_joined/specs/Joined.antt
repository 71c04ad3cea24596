-- Joined runs, as contracts see them.
use Rattle.std.specs.Prelude.{◌≡◌, ℕ, ◌+◌, ◌<◌, ◌≤◌, List, [], ◌∷◌, ◌++◌, length, take, drop, sum_by, Option, Some, None, Bool, true, false, not, ◌&&◌, ◌||◌, ◌⊎◌, if◌then◌else◌, Result, Ok, Err, ⊤, is_some, is_err}
use Rattle.vhost_protocol.specs.Stream.{Cell, has_some}
use Rattle.vhost_protocol.specs.Error.{Error, OutOfMemory, seen}
use Rattle.vhost_protocol.specs.Session.{Session, heard_in}
use Rattle.vhost_message.specs.Bits.{has_bit}
use Rattle.vhost_message.specs.Cause.{is_retry, error_of}
use Rattle.vhost_message.specs.declared.cause.IoCause.{IoCause}
use Rattle.vhost_message.specs.declared.heard_req.HeardReq.{HeardReq}
use Rattle.vhost_message.specs.declared.limits.TheConstants.{MAX_MSG_TEXT}
use Rattle.vhost_message.specs.HeardReq.{request_number}
use Rattle.vhost_protocol.specs.Agreement.{Negotiates}
use Rattle.vhost_protocol.specs.Codes.{allows_handles}
use Rattle.vhost_protocol.specs.DeviceCall.{GetFeatures}
use Rattle.vhost_protocol.specs.Features.{PROTOCOL_FEATURES}
use Rattle.vhost_protocol.specs.FrontendCall.{FrontendCall, PostcopyEnd, Value, Frontend}
use Rattle.vhost_protocol.specs.AnswerTable.{answered}
use Rattle.vhost_protocol.specs.Ask as ask
use Rattle.vhost_protocol.specs.Ask.{ask}
use Rattle.vhost_protocol.specs.Take.{take as answer_in}
use Rattle.vhost_protocol.specs.declared.asked.Awaited.{Awaited}
use Rattle.vhost_protocol.specs.declared.asked.Awaited.TheVariants.{Nobody}
use Rattle.vhost_protocol.specs.Handler.{MeetsRow}
use Rattle.vhost_protocol.specs.Joined.{Shown, InStep, JoinedStep, read_as}
use Rattle.vhost_protocol.specs.Profile.{is_standard}
use Rattle.vhost_protocol.specs.Run as run
use Rattle.vhost_protocol.specs.Split.{Message, split}
use Rattle.vhost_protocol.specs.Written.{Written, head_of, written_cells}
use Rattle.vhost_link.specs.declared.plain.PlainHandle.{PlainHandle}
use Rattle.vhost_link.specs.declared.cut.Cut.{Cut}
use Rattle.vhost_link.specs.Cuts.{Fails, counted, retry, failure}
use Rattle.vhost_backend_req_handler.specs.Serving.{kept_unsent}
use Rattle.vhost_joined.specs.Device.{Gives, opens_backend, opens_gpu}
use Rattle.vhost_joined.specs.Runs as runs
use Rattle.vhost_joined.specs.Text.{Text, text_of, no_text}
use Rattle.vhost_frontend_core.specs.declared.values.call.FrontendCall as code
use Rattle.vhost_frontend_core.specs.declared.values.answer.FrontendAnswer.{FrontendAnswer}
use Rattle.vhost_frontend_core.specs.Halves.{makes_room}
use Rattle.vhost_frontend_core.specs.Values.{call_of, answer_of}
use Rattle.vhost_joined.specs.declared.halt.Halt.{Halt}
use Rattle.vhost_joined.specs.declared.halt.Halt.TheVariants as halt
use Rattle.vhost_joined.specs.declared.halt.Stop.{Stop}
use Rattle.vhost_joined.specs.declared.halt.Stop.TheVariants as stop

-- the script of a link, and how many of its sends failed for want of memory
pub record Cuts : Type 0 where
  pub script : List Cut
  pub wants : ℕ

-- A joined run: both sessions, what is awaited, the device, what is on the way, the lists of handles, and what the last step wrote.
pub record View (Dev : Type 0) : Type 0 where
  pub frontend : Frontend
  pub awaited : Awaited
  pub session : Session
  pub device : Dev
  pub to_handler : List (Cell PlainHandle)
  pub to_frontend : List (Cell PlainHandle)
  -- the two links, and how many retries one message may take
  pub asking : Cuts
  pub serving : Cuts
  pub budget : ℕ
  -- whether both sides have their lists of handles: a message's handles take them away, and the next step makes them again
  pub lists : Bool
  -- the messages of the last step that was answered
  pub request : Text
  pub reply : Text
  pub stopped : Option Stop

-- So many calls of a link, each of which took one cut of its script. Those for which there was no memory are retries, too, and are counted.
pub record Calls (old new : Cuts) : Type 0 where
  pub used : ℕ
  pub wants : ℕ
  pub script : new.script ≡ drop used old.script
  pub count : new.wants ≡ counted old.wants wants

-- how often these calls were retried, and how often the link failed for good
abbrev pub retries_of : {old new : Cuts} → Calls old new → ℕ
retries_of {old = old} calls = sum_by retry (take calls.used old.script) + calls.wants

abbrev pub faults_of : {old new : Cuts} → Calls old new → ℕ
faults_of {old = old} calls = sum_by failure (take calls.used old.script)

-- These cells went over a link: no call failed for good, they were retried no more often than one message may be, and without a call no cell moved.
pub record Passes (budget : ℕ) (cells : List (Cell PlainHandle)) (old new : Cuts) : Type 0 where
  pub calls : Calls old new
  pub faults : faults_of calls ≡ 0
  pub retries : retries_of calls ≤ budget
  pub some : has_some cells ≡ true → 0 < calls.used

-- A message was stopped by the last call of a link, which failed with this cause, as its cut says or for want of memory.
-- The calls before it did not fail for good, and where it may be made again they had spent what one message may be retried.
pub record Stops (budget : ℕ) (c : IoCause) (old new : Cuts) : Type 0 where
  pub before : Cuts
  pub calls : Calls old before
  pub faults : faults_of calls ≡ 0
  pub retries : retries_of calls ≤ budget
  pub spent : is_retry c ≡ true → retries_of calls ≡ budget
  pub last : Fails before.script c before.wants new.wants
  pub script : new.script ≡ drop 1 before.script

-- a request went over a link, and then its reply; each may be retried so often
pub record PassesBoth (budget : ℕ) (request reply : List (Cell PlainHandle)) (old new : Cuts) : Type 0 where
  pub mid : Cuts
  pub asked : Passes budget request old mid
  pub answered : Passes budget reply mid new

-- the request went over, and the reply was stopped
pub record StopsReply (budget : ℕ) (c : IoCause) (request : List (Cell PlainHandle)) (old new : Cuts) : Type 0 where
  pub mid : Cuts
  pub asked : Passes budget request old mid
  pub stopped : Stops budget c mid new

-- Both sides are in step, requests are not sent as replies, and acknowledgements are on only where protocol features were offered: the bit is that of all features that the device offers.
pub record IsReady {Dev : Type 0} (bit : Bool) (v : View Dev) : Type 0 where
  pub in_step : InStep v.frontend v.session v.awaited v.to_handler v.to_frontend
  pub plain : has_bit v.frontend.header_flags 2 ≡ false
  pub negotiates : Negotiates bit v.frontend

-- the call that ends postcopy
abbrev pub ends : {H : Type 0} → FrontendCall H → Bool
ends PostcopyEnd = true
ends _ = false

-- A run is over where the session has ended. Under Vhost it is over, too, where the handler erred in silence, or at the end of postcopy.
abbrev pub is_over : Frontend → Session → (is_end : Bool) → Result ⊤ Error → (reply : List ℕ) → Bool
is_over f s is_end answer reply = is_some s.failed || (not (is_standard f.profile) && (is_err answer && (not (has_some reply) || is_end)))

-- Why a run stops with a step: a link failed, or there was no memory on the way or behind the handler; or the run is over.
-- None is a handler that served nothing.
abbrev pub stop_after : Frontend → Session → (is_end : Bool) → Option (Result ⊤ Error) → (lost : Bool) → (reply : List ℕ) → Option Stop
stop_after f s is_end None lost reply = Some stop.Premise
stop_after f s is_end (Some answer) true reply = Some stop.Premise
stop_after f s is_end (Some (Err OutOfMemory)) false reply = Some stop.Premise
stop_after f s is_end (Some answer) false reply = if is_over f s is_end answer reply then Some stop.Table else None

-- Under Standard no refusal stops a run: where no premise failed, it stops only where the session has ended.
abbrev pub StopsAtEnd : {Dev : Type 0} → View Dev → View Dev → Type 0
StopsAtEnd old new = old.stopped ≡ None → is_standard old.frontend.profile ≡ true → new.stopped ≡ Some stop.Table → is_some new.session.failed ≡ true

-- the request of a message, as cells
abbrev pub request_cells : Written HeardReq PlainHandle → List (Cell PlainHandle)
request_cells w = written_cells request_number w

-- of a request, what its receiver calls its link for: all of it, where nothing was on the way before it and might have been heard with it
abbrev pub unheard : (on_way request : List (Cell PlainHandle)) → List (Cell PlainHandle)
unheard [] request = request
unheard (c ∷ on_way) request = []

-- ---- lists of handles

-- A step that did not stop the run leaves both lists of handles, unless a handle was in one of its messages, or something was on the way before.
abbrev pub KeepsLists : {Dev : Type 0} → View Dev → View Dev → Type 0
KeepsLists old new = new.stopped ≡ None → old.to_handler ≡ [] → old.to_frontend ≡ [] → new.request.handles ≡ [] → new.reply.handles ≡ [] → new.lists ≡ true

-- why there may be no memory for a call: a list of handles is away; or the call makes room for its answer
abbrev pub MayWant : {Dev : Type 0} → View Dev → FrontendCall PlainHandle → Type 0
MayWant old call = (old.lists ≡ false) ⊎ (makes_room old.frontend call ≡ true)

module _ {Dev : Type 0} (gives : Gives Dev) where
  -- ---- what a step does, whatever was before

  -- of the handler, which leaves this of what comes
  module _ (old new : View Dev) (w : Written HeardReq PlainHandle) (left : List (Cell PlainHandle)) where
    -- The handler reads the first message of all that comes: of what was on the way, and then of this request, which is the first where nothing was.
    pub record ReadsFirst (heard : Result (Message HeardReq PlainHandle) Error) : Type 0 where
      pub first : split (heard_in old.session) allows_handles (old.to_handler ++ request_cells w) ≡ (heard, left)
      pub own : old.to_handler ≡ [] → heard ≡ Ok (read_as w)

    -- What the handler answered, and what it wrote. None: it did not come so far.
    pub data Serves (came : List (Cell PlainHandle)) : Option (Result ⊤ Error) → Type 0 where
      -- there was more on the way, and no memory to put the request behind it
      full : has_some old.to_handler ≡ true → came ≡ [] → new.session ≡ old.session → new.device ≡ old.device → new.serving ≡ old.serving
          → left ≡ old.to_handler ++ request_cells w → Serves came None
      -- its link failed while a message came in: nothing was written, and session and device are as they were
      unread : (c : IoCause) (read : List (Cell PlainHandle)) → Stops old.budget c old.serving new.serving → came ≡ [] → new.session ≡ old.session → new.device ≡ old.device
          → old.to_handler ++ request_cells w ≡ read ++ left → Serves came None
      -- its link failed while the reply went out: only a front of it was written
      unanswered : (c : IoCause) (m : Message HeardReq PlainHandle) (answer : Result ⊤ Error) (reply : List (Cell PlainHandle)) (after : Session) (count : ℕ)
          → StopsReply old.budget c (unheard old.to_handler (request_cells w)) old.serving new.serving → ReadsFirst (Ok m) → MeetsRow gives opens_backend opens_gpu old.session old.device m answer reply after new.device
          → count < length reply → came ≡ take count reply → new.session ≡ kept_unsent m.request old.session after → Serves came None
      -- it served a message by its row, or what came is none
      served : (heard : Result (Message HeardReq PlainHandle) Error) (answer : Result ⊤ Error) → PassesBoth old.budget (unheard old.to_handler (request_cells w)) came old.serving new.serving → ReadsFirst heard
          → run.Handles heard_in allows_handles (λ (s : Session). s.failed) (MeetsRow gives opens_backend opens_gpu) old.session old.device heard answer came new.session new.device
          → Serves came (Some answer)

  -- What the frontend made of what came back behind what was on the way. true: it did not come so far.
  pub data Takes (old : View Dev) (call : FrontendCall PlainHandle) (w : Written HeardReq PlainHandle) (awaited : Awaited) (after : Frontend) (mid : Cuts) (came : List (Cell PlainHandle))
      (result : Result (Value PlainHandle) Error) (new : View Dev) : Bool → Type 0 where
    -- there was more on the way there or back, and no memory to put this behind it
    no_room : (has_some old.to_handler ≡ true) ⊎ (has_some old.to_frontend ≡ true) → result ≡ Err OutOfMemory → new.frontend ≡ after → new.awaited ≡ awaited → new.asking ≡ mid
        → new.to_frontend ≡ old.to_frontend ++ came → Takes old call w awaited after mid came result new true
    -- its link failed
    lost : (c : IoCause) (read : List (Cell PlainHandle)) → Stops old.budget c mid new.asking → result ≡ Err (seen (error_of c)) → new.frontend ≡ after → new.awaited ≡ Nobody
        → old.to_frontend ++ came ≡ read ++ new.to_frontend → Takes old call w awaited after mid came result new true
    -- the answer is what the definitions take of it
    taken : Passes old.budget [] mid new.asking → new.awaited ≡ Nobody
        → answer_in call awaited (head_of request_number w) after (old.to_frontend ++ came) ≡ (Some (answered new.frontend result), new.to_frontend)
        → Takes old call w awaited after mid came result new false

  -- A message was sent: the frontend is asked, the handler serves, and the frontend takes the answer.
  pub record Exchanges (old : View Dev) (call : FrontendCall PlainHandle) (result : Result (Value PlainHandle) Error) (new : View Dev) : Type 0 where
    pub message : Written HeardReq PlainHandle
    pub awaited : Awaited
    pub after : Frontend
    pub asked : ask old.frontend call ≡ ask.Sends message awaited after
    pub mid : Cuts
    pub passed : Passes old.budget (request_cells message) old.asking mid
    pub request : new.request ≡ text_of (request_cells message)
    pub left : List (Cell PlainHandle)
    pub came : List (Cell PlainHandle)
    pub answer : Option (Result ⊤ Error)
    pub serves : Serves old new message left came answer
    pub reply : (old.to_handler ≡ []) ⊎ (length came ≤ MAX_MSG_TEXT) → new.reply ≡ text_of came
    pub lost : Bool
    pub takes : Takes old call message awaited after mid came result new lost
    -- nothing went out behind the request, unless the frontend's link failed
    pub behind : List (Cell PlainHandle)
    pub on_way : new.to_handler ≡ left ++ behind
    pub whole : lost ≡ false → behind ≡ []
    pub stopped : new.stopped ≡ stop_after new.frontend new.session (ends call) answer lost new.reply.bytes
    pub budget : new.budget ≡ old.budget

  -- Whatever was before: a call is refused, or answered at once; or its request was stopped by the frontend's link; or it was sent. Nothing else changes.
  pub data Moves (old : View Dev) (call : FrontendCall PlainHandle) (result : Result (Value PlainHandle) Error) (new : View Dev) : Type 0 where
    refused : (e : Error) → ask old.frontend call ≡ ask.Refuses e → result ≡ Err e → new ≡ record old { lists = true; request = no_text; reply = no_text } → Moves old call result new
    at_once : (v : Value PlainHandle) (g : Frontend) → ask old.frontend call ≡ ask.Answers v g → result ≡ Ok v → new ≡ record old { frontend = g; lists = true; request = no_text; reply = no_text }
        → Moves old call result new
    unsent : (message : Written HeardReq PlainHandle) (awaited : Awaited) (after : Frontend) (c : IoCause) (gone read : List (Cell PlainHandle))
        → ask old.frontend call ≡ ask.Sends message awaited after → Stops old.budget c old.asking new.asking → result ≡ Err (seen (error_of c)) → old.to_frontend ≡ read ++ new.to_frontend
        → new ≡ record old {
          asking = new.asking;
          to_handler = old.to_handler ++ gone;
          to_frontend = new.to_frontend;
          lists = true;
          request = text_of gone;
          reply = no_text;
          stopped = Some stop.Premise;
        } → Moves old call result new
    sent : Exchanges old call result new → Moves old call result new

  -- ---- what it does where both sides are in step

  -- The step is that of the protocol: its messages, the device's move, the answer and both sessions. Nothing is left on the way,
  -- no premise failed, and the run stops exactly where the definition says.
  pub record Keeps (old : View Dev) (call : FrontendCall PlainHandle) (result : Result (Value PlainHandle) Error) (new : View Dev) : Type 0 where
    pub shown : Shown PlainHandle
    pub step : JoinedStep gives opens_backend opens_gpu old.frontend old.session old.device call shown new.frontend new.session new.device
    pub answered : result ≡ shown.result
    pub request : new.request ≡ text_of shown.request
    pub reply : new.reply ≡ text_of shown.reply
    pub stopped : new.stopped ≡ (if shown.last then Some stop.Table else None)
    pub in_step : shown.last ≡ false → InStep new.frontend new.session new.awaited new.to_handler new.to_frontend
    pub no_request : new.to_handler ≡ []
    pub no_reply : new.to_frontend ≡ []
    pub asking : PassesBoth old.budget shown.request shown.reply old.asking new.asking
    pub serving : PassesBoth old.budget shown.request shown.reply old.serving new.serving
    pub fed : shown.handled ≡ Some (Err OutOfMemory) → ⊥
    pub budget : new.budget ≡ old.budget

  -- Both sides in step keep the protocol; or the run stopped for a premise, of which the rest of the step tells.
  abbrev pub Answers : View Dev → FrontendCall PlainHandle → Result (Value PlainHandle) Error → View Dev → Type 0
  Answers old call result new = Keeps old call result new ⊎ (new.stopped ≡ Some stop.Premise)

  -- All features that the device answers have the bit of protocol features, or none has it.
  abbrev pub Offers : Bool → Type 0
  Offers bit = (d d' : Dev) (n : ℕ) → gives d GetFeatures (Ok n) d' → has_bit n PROTOCOL_FEATURES ≡ bit

  -- One step: a run that stopped before changes nothing, nor does want of memory before the first byte, but that lists of handles may be there again; an answered step is that of both sides in step.
  abbrev pub Steps : View Dev → FrontendCall PlainHandle → Result FrontendAnswer Halt → View Dev → Type 0
  Steps old call (Ok a) new = (old.stopped ≡ None) × Moves old call (answer_of a) new × ((bit : Bool) → IsReady bit old → Answers old call (answer_of a) new) × KeepsLists old new
  Steps old call (Err halt.Stopped) new = (is_some old.stopped ≡ true) × (new ≡ old)
  Steps old call (Err halt.OutOfMemory) new = (old.stopped ≡ None) × (new ≡ record old { lists = new.lists }) × MayWant old call

  -- the same of a call as the code has it
  abbrev pub StepsBy : View Dev → code.FrontendCall → Result FrontendAnswer Halt → View Dev → Type 0
  StepsBy old call result new = Steps old (call_of call) result new

  -- steps one after another, until one is not done
  abbrev pub StepsAll : View Dev → List code.FrontendCall → List FrontendAnswer → Result ⊤ Halt → View Dev → Type 0
  StepsAll = runs.StepsAll StepsBy
