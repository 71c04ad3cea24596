-- Joined runs of the reverse channel, as contracts see them.
use Rattle.std.specs.Prelude.{◌≡◌, ℕ, ◌<◌, List, [], length, take, Option, Some, None, Bool, true, false, ◌||◌, ◌⊎◌, if◌then◌else◌, Result, Ok, Err, ⊤, is_some}
use Rattle.vhost_message.specs.BackendReq.{backend_request_number}
use Rattle.vhost_message.specs.Cause.{error_of}
use Rattle.vhost_message.specs.declared.backend_req.BackendReq.{BackendReq}
use Rattle.vhost_message.specs.declared.cause.IoCause.{IoCause}
use Rattle.vhost_message.specs.declared.io_error.IoError as io
use Rattle.vhost_protocol.specs.Error.{seen}
use Rattle.vhost_protocol.specs.IoError.{IoError, Of, seen_io_result}
use Rattle.vhost_protocol.specs.Joined.{read_as}
use Rattle.vhost_protocol.specs.JoinedReverse.{ReverseInput, Asks, ReverseInStep, ReverseShown, ReverseJoinedStep}
use Rattle.vhost_protocol.specs.Reverse.{ReverseCall, Backend, Server, Sends, reverse_ask, reverse_take, ReverseOutcome, ReverseFollows, reverse_row}
use Rattle.vhost_protocol.specs.Served.{reply, cells_of}
use Rattle.vhost_protocol.specs.Stream.{Cell}
use Rattle.vhost_protocol.specs.Written.{Written, head_of, written_cells}
use Rattle.vhost_link.specs.declared.plain.PlainHandle.{PlainHandle}
use Rattle.vhost_backend_req.specs.Halves.{input_of}
use Rattle.vhost_backend_req.specs.declared.call.ReverseCall as code
use Rattle.vhost_joined.specs.declared.halt.Halt.{Halt}
use Rattle.vhost_joined.specs.declared.halt.Halt.TheVariants as halt
use Rattle.vhost_joined.specs.declared.halt.Stop.{Stop}
use Rattle.vhost_joined.specs.declared.halt.Stop.TheVariants as stop
use Rattle.vhost_joined.specs.Joined.{Cuts, Passes, PassesBoth, Stops, StopsReply}
use Rattle.vhost_joined.specs.Runs as runs
use Rattle.vhost_joined.specs.Text.{Text, text_of}

-- what the device behind the serving side may do at each call: old state, call, answer and new state
abbrev pub Gives : Type 0 → Type 1
Gives Dev = Dev → ReverseCall PlainHandle → Result ℕ IoError → Dev → Type 0

-- A joined run: what both sides remember, the device, what is on the way, and what the last step wrote.
pub record View (Dev : Type 0) : Type 0 where
  pub backend : Backend
  pub server : Server
  pub device : Dev
  pub to_server : List (Cell PlainHandle)
  pub to_backend : List (Cell PlainHandle)
  -- the two links, and how many retries one message may take
  pub asking : Cuts
  pub serving : Cuts
  pub budget : ℕ
  -- the messages of the last step that was answered
  pub request : Text
  pub reply : Text
  pub stopped : Option Stop

-- both sides are in step
abbrev pub IsReady : {Dev : Type 0} → View Dev → Type 0
IsReady v = ReverseInStep v.backend v.server v.to_server v.to_backend

-- the request of a message, as cells
abbrev pub request_cells : Written BackendReq PlainHandle → List (Cell PlainHandle)
request_cells w = written_cells backend_request_number w

-- the reply of an outcome, as cells
abbrev pub reply_cells : Written BackendReq PlainHandle → ReverseOutcome PlainHandle → List (Cell PlainHandle)
reply_cells w o = cells_of backend_request_number (reply w.request o.served)

module _ {Dev : Type 0} (gives : Gives Dev) where
  -- What the serving side wrote. true: its link failed.
  pub data Serves (old : View Dev) (w : Written BackendReq PlainHandle) (came : List (Cell PlainHandle)) (new : View Dev) : Bool → Type 0 where
    -- while the request came in: nothing was written, and the device is as it was
    unread : (c : IoCause) → Stops old.budget c old.serving new.serving → came ≡ [] → new.device ≡ old.device → Serves old w came new true
    -- while the reply went out: only a front of it was written
    unanswered : (c : IoCause) (o : ReverseOutcome PlainHandle) (count : ℕ) → StopsReply old.budget c (request_cells w) old.serving new.serving → ReverseFollows gives old.device (reverse_row old.server (read_as w)) o new.device
        → count < length (reply_cells w o) → came ≡ take count (reply_cells w o) → Serves old w came new true
    -- it served the request by its row
    served : (o : ReverseOutcome PlainHandle) → ReverseFollows gives old.device (reverse_row old.server (read_as w)) o new.device → came ≡ reply_cells w o → Serves old w came new false

  -- What the asking side made of what came. true: its link failed.
  pub data Takes (budget : ℕ) (w : Written BackendReq PlainHandle) (awaited : Bool) (mid : Cuts) (came : List (Cell PlainHandle)) (result : Result ℕ IoError) (after : Cuts) : Bool → Type 0 where
    lost : (c : IoCause) → Stops budget c mid after → result ≡ Err (Of (seen (error_of c))) → Takes budget w awaited mid came result after true
    taken : (left : List (Cell PlainHandle)) → reverse_take awaited (head_of backend_request_number w) came ≡ (result, left) → Takes budget w awaited mid came result after false

  -- A request was sent, and one of the links failed behind it. Each side did its own part, and nothing else.
  pub record Broke (old : View Dev) (input : ReverseInput PlainHandle) (result : Result ℕ IoError) (new : View Dev) : Type 0 where
    pub call : ReverseCall PlainHandle
    pub is_call : input ≡ Asks call
    pub message : Written BackendReq PlainHandle
    pub awaited : Bool
    pub asked : reverse_ask old.backend call ≡ Sends message awaited
    pub mid : Cuts
    pub passed : Passes old.budget (request_cells message) old.asking mid
    pub request : new.request ≡ text_of (request_cells message)
    pub came : List (Cell PlainHandle)
    pub stopped : Bool
    pub serves : Serves old message came new stopped
    pub reply : new.reply ≡ text_of came
    pub lost : Bool
    pub takes : Takes old.budget message awaited mid came result new.asking lost
    pub failed : (stopped || lost) ≡ true
    pub backend : new.backend ≡ old.backend
    pub server : new.server ≡ old.server

  -- A premise of the lockstep failed in a step: the asking side's link failed while the request went out, and nothing else was done; or a link failed behind it.
  pub data Breaks (old : View Dev) (input : ReverseInput PlainHandle) (result : Result ℕ IoError) (new : View Dev) : Type 0 where
    unsent : (c : IoCause) → Stops old.budget c old.asking new.asking → result ≡ Err (Of (seen (error_of c))) → new.device ≡ old.device → new.backend ≡ old.backend → new.server ≡ old.server → Breaks old input result new
    broke : Broke old input result new → Breaks old input result new

  -- The step is that of the protocol: its messages, the device's move, the answer and both sides. Both are in step after it,
  -- no premise failed, and the run stops exactly where the definition says.
  pub record Keeps (old : View Dev) (input : ReverseInput PlainHandle) (result : Result ℕ IoError) (new : View Dev) : Type 0 where
    pub shown : ReverseShown PlainHandle
    pub step : ReverseJoinedStep gives old.backend old.server old.device input shown new.backend new.server new.device
    pub answered : result ≡ shown.result
    pub request : new.request ≡ text_of shown.request
    pub reply : new.reply ≡ text_of shown.reply
    pub stopped : new.stopped ≡ (if shown.last then Some stop.Table else None)
    pub in_step : IsReady new
    pub asking : PassesBoth old.budget shown.request shown.reply old.asking new.asking
    pub serving : PassesBoth old.budget shown.request shown.reply old.serving new.serving
    pub budget : new.budget ≡ old.budget

  -- an answered step: that of the protocol, or a premise failed and the run stopped
  abbrev pub Answers : View Dev → ReverseInput PlainHandle → Result ℕ IoError → View Dev → Type 0
  Answers old input result new = Keeps old input result new ⊎ ((new.stopped ≡ Some stop.Premise) × Breaks old input result new)

  -- one step: a run that stopped before, and want of memory before the first byte, change nothing
  abbrev pub Steps : View Dev → ReverseInput PlainHandle → Result (Result ℕ io.IoError) Halt → View Dev → Type 0
  Steps old input (Ok a) new = (old.stopped ≡ None) × Answers old input (seen_io_result a) new
  Steps old input (Err halt.Stopped) new = (is_some old.stopped ≡ true) × (new ≡ old)
  Steps old input (Err halt.OutOfMemory) new = (old.stopped ≡ None) × (new ≡ old)

  -- the same of a call as the code has it
  abbrev pub StepsBy : View Dev → code.ReverseCall PlainHandle → Result (Result ℕ io.IoError) Halt → View Dev → Type 0
  StepsBy old call result new = Steps old (input_of call) result new

  -- steps one after another, until one is not done
  abbrev pub StepsAll : View Dev → List (code.ReverseCall PlainHandle) → List (Result ℕ io.IoError) → Result ⊤ Halt → View Dev → Type 0
  StepsAll = runs.StepsAll StepsBy
