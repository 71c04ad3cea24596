-- What a handler does with the messages of its stream, whichever side it serves.
use Rattle.std.specs.Prelude.{◌≡◌, ℕ, ℤ, Bool, true, not, List, [], ◌∷◌, ◌++◌, length, map, Option, Some, None, ◌⊎◌, Result, Ok, Err}
use Rattle.vhost_message.specs.declared.cause.IoCause.TheVariants.{Raw}
use Rattle.vhost_message.specs.declared.error.Error as declared
use Rattle.vhost_message.specs.declared.error.Error.TheVariants.{SocketBroken}
use Rattle.vhost_protocol.specs.Error.{Error, seen, seen_result}
use Rattle.vhost_protocol.specs.Run as run
use Rattle.vhost_protocol.specs.Split.{Message, split}
use Rattle.vhost_protocol.specs.Stream.{Cell, has_some}
use Rattle.vhost_link.specs.Law.{Event, Move}
use Rattle.vhost_connection.specs.Talk.{State, Talks}
use Rattle.vhost_connection.specs.Hearing.{Hears}
use Rattle.vhost_connection.specs.Requests.{ReadsInPart, Replies, Stops}

-- ---- one message

-- The endpoint, and what is met: an answer, the cells that are written with it, and session and device afterwards.
module _ {L H S A Dev : Type 0} (event : L → Event H → L → Type 0) (Met : Result A Error → List (Cell H) → S → Dev → Type 0) where
  -- A message met its row, and the peer knows.
  pub record Answered (old : State L H) (answer : Result A Error) (new : State L H) (s' : S) (d' : Dev) : Type 0 where
    pub written : List (Cell H)
    pub meets : Met answer written s' d'
    pub replies : Replies event old written new

  -- It met its row, and then a fault stopped the reply; this is kept of the session.
  pub record Interrupted (kept : S → S) (old : State L H) (e : declared.Error) (new : State L H) (s' : S) (d' : Dev) : Type 0 where
    pub answer : Result A Error
    pub written : List (Cell H)
    pub after : S
    pub meets : Met answer written after d'
    pub stops : Stops event old written e new
    pub session : s' ≡ kept after

  -- one of the two
  pub data Answers (kept : S → S) (old : State L H) : Result A declared.Error → State L H → S → Dev → Type 0 where
    answered : {result : Result A declared.Error} {new : State L H} {s' : S} {d' : Dev} → Answered old (seen_result result) new s' d' → Answers kept old result new s' d'
    interrupted : {e : declared.Error} {new : State L H} {s' : S} {d' : Dev} → Interrupted kept old e new s' d' → Answers kept old (Err e) new s' d'

-- whether the endpoint has its list of handles after what was heard
abbrev pub keeps_list : {R H : Type 0} → Result (Message R H) Error → Bool
keeps_list (Ok m) = not (has_some m.handles)
keeps_list (Err e) = true

-- ---- calls

-- A handler is what `Run` says it is, and hears the requests that its session does. Of a session whose reply was stopped it keeps something, from before it and after.
module _ {L R H S A Dev : Type 0} (event : L → Event H → L → Type 0) (request_of : S → ℕ → Option R) (allows_handles : R → ℕ → Bool) (failed : S → Option ℤ)
    (kept : R → S → S → S) (Meets : S → Dev → Message R H → Result A Error → List (Cell H) → S → Dev → Type 0) where
  -- One request was read, or the stream has none there, and then what its row says went out: one entry of a run. The endpoint has given its list of handles away only where there were some.
  pub record Handled (old : State L H) (s : S) (d : Dev) (answer : Result A Error) (new : State L H) (s' : S) (d' : Dev) : Type 0 where
    pub heard : Result (Message R H) Error
    pub mid : State L H
    pub hears : Hears event (split (request_of s) allows_handles) old heard mid
    pub written : List (Cell H)
    pub replies : Replies event mid written new
    pub handles : run.Handles request_of allows_handles failed Meets s d heard answer written s' d'
    pub list : new.list ≡ keeps_list heard

  -- One request was not served. There was trouble before a whole message was read, and session and device are as they were; or a fault stopped its reply, and they are as its row says.
  pub data Breaks (old : State L H) (s : S) (d : Dev) (e : declared.Error) (new : State L H) (s' : S) (d' : Dev) : Type 0 where
    unread : ReadsInPart event (request_of s) allows_handles old e new → s' ≡ s → d' ≡ d → Breaks old s d e new s' d'
    unanswered : (m : Message R H) (mid : State L H) → Hears event (split (request_of s) allows_handles) old (Ok m) mid
        → Interrupted event (Meets s d m) (kept m.request s) mid e new s' d' → Breaks old s d e new s' d'

  -- one call of the handler
  abbrev pub HandlesOne : State L H → S → Dev → Result A declared.Error → State L H → S → Dev → Type 0
  HandlesOne old s d (Ok a) new s' d' = Handled old s d (Ok a) new s' d'
  HandlesOne old s d (Err e) new s' d' = Handled old s d (Err (seen e)) new s' d' ⊎ Breaks old s d e new s' d'

  -- a session that is marked as failed reads nothing, and says so
  abbrev pub CallsUnless : Option ℤ → State L H → S → Dev → Result A declared.Error → State L H → S → Dev → Type 0
  CallsUnless (Some n) old s d result new s' d' = (result ≡ Err (SocketBroken (Raw n))) × (new ≡ old) × (s' ≡ s) × (d' ≡ d)
  CallsUnless None old s d result new s' d' = HandlesOne old s d result new s' d'

  -- one call, whether or not the session is marked
  abbrev pub CallsOnce : State L H → S → Dev → Result A declared.Error → State L H → S → Dev → Type 0
  CallsOnce old s d result new s' d' = CallsUnless (failed s) old s d result new s' d'

  -- many calls
  abbrev pub CallsMany : State L H → S → Dev → List (Result A declared.Error) → State L H → S → Dev → Type 0
  CallsMany old s d [] new s' d' = (new ≡ old) × (s' ≡ s) × (d' ≡ d)
  CallsMany old s d (answer ∷ answers) new s' d' =
      (mid : State L H) × (t : S) × (between : Dev) × CallsOnce old s d answer mid t between × CallsMany mid t between answers new s' d'

  -- A whole run: what was received and written by all calls are the messages of the run, in order.
  pub record WholeRun (old : State L H) (s : S) (d : Dev) (answers : List (Result A declared.Error)) (new : State L H) (s' : S) (d' : Dev) : Type 0 where
    pub move : Move H
    pub talks : Talks event old move new
    pub failures : move.failures ≡ 0
    pub run : run.Run request_of allows_handles failed Meets s d (map (λ a. seen_result a) answers) move.handed move.taken s' d'

  -- A whole run up to a call that failed for its link or for want of memory, and the calls behind it.
  pub record BrokenRun (old : State L H) (s : S) (d : Dev) (answers : List (Result A declared.Error)) (new : State L H) (s' : S) (d' : Dev) : Type 0 where
    pub served : List (Result A declared.Error)
    pub error : declared.Error
    pub later : List (Result A declared.Error)
    pub all : answers ≡ served ++ Err error ∷ later
    pub mid : State L H
    pub mid_session : S
    pub mid_device : Dev
    pub run : WholeRun old s d served mid mid_session mid_device
    pub next : State L H
    pub next_session : S
    pub next_device : Dev
    pub breaks : Breaks mid mid_session mid_device error next next_session next_device
    pub rest : CallsMany next next_session next_device later new s' d'

  -- many calls are a whole run, unless one failed
  abbrev pub RunsMany : State L H → S → Dev → List (Result A declared.Error) → State L H → S → Dev → Type 0
  RunsMany old s d answers new s' d' = WholeRun old s d answers new s' d' ⊎ BrokenRun old s d answers new s' d'

  -- So many calls, each by what it does, and their answers behind others: a run.
  pub record Runs (old : State L H) (s : S) (d : Dev) (n : ℕ) (before after : List (Result A declared.Error)) (new : State L H) (s' : S) (d' : Dev) : Type 0 where
    pub answers : List (Result A declared.Error)
    pub count : length answers ≡ n
    pub appended : after ≡ before ++ answers
    pub calls : CallsMany old s d answers new s' d'
    pub runs : RunsMany old s d answers new s' d'
