-- What a handler does with a request.
use Rattle.std.specs.Prelude.{◌≡◌, ℕ, List, Result, Ok, Err, ⊤}
use Rattle.vhost_message.specs.declared.error.Error as declared
use Rattle.vhost_message.specs.declared.heard_req.HeardReq.{HeardReq}
use Rattle.vhost_message.specs.declared.heard_req.HeardReq.TheVariants.{GET_FEATURES}
use Rattle.vhost_message.specs.HeardReq.{request_number}
use Rattle.vhost_protocol.specs.Stream.{Cell}
use Rattle.vhost_protocol.specs.Error.{Error, seen_result}
use Rattle.vhost_protocol.specs.Codes.{allows_handles}
use Rattle.vhost_protocol.specs.Session.{Session, heard_in}
use Rattle.vhost_protocol.specs.DeviceCall.{Call, Answer}
use Rattle.vhost_protocol.specs.Handler.{Follows, MeetsRow}
use Rattle.vhost_protocol.specs.Heard.{AnswerFits}
use Rattle.vhost_protocol.specs.Served.{Served, Silent, reply, cells_of}
use Rattle.vhost_protocol.specs.Settled.{settled}
use Rattle.vhost_protocol.specs.Split.{Message}
use Rattle.vhost_protocol.specs.Step.{Outcome, Step}
use Rattle.vhost_link.specs.Law.{Event}
use Rattle.vhost_connection.specs.Talk.{State}
use Rattle.vhost_connection.specs.Requests.{Replies, Stops}
use Rattle.vhost_connection.specs.Serving as serving

-- ---- replies

-- what a handler lets its peer know of a request, as cells
abbrev pub reply_cells : {H : Type 0} → HeardReq → Served H → List (Cell H)
reply_cells r served = cells_of request_number (reply r served)

-- ---- the device

-- a device's relation, over answers that their types can hold
abbrev pub fitting : {H B G Dev : Type 0} → (Dev → (c : Call H B G) → Answer c → Dev → Type 0) → Dev → (c : Call H B G) → Answer c → Dev → Type 0
fitting gives d c a d' = gives d c a d' × AnswerFits c a

-- ---- rows

-- what stays of a session where the reply was stopped: the offered features are remembered once they are sent
abbrev pub kept_unsent : HeardReq → Session → Session → Session
kept_unsent GET_FEATURES before after = before
kept_unsent _ before after = after

module _ {H B G Dev : Type 0} (gives : Dev → (c : Call H B G) → Answer c → Dev → Type 0) (opens_backend : H → Result B Error → Type 0) (opens_gpu : H → Result G Error → Type 0) where
  -- The rest of a message's row was followed, and what it became is settled: this is the answer, what is written, and session and device.
  pub record Met (m : Message HeardReq H) (step : Step H B G) (s : Session) (d : Dev) (answer : Result ⊤ Error) (written : List (Cell H)) (s' : Session) (d' : Dev) : Type 0 where
    pub told : Outcome H
    pub follows : Follows (fitting gives) opens_backend opens_gpu s d step told d'
    pub is_answer : answer ≡ (settled s m told).answer
    pub is_written : written ≡ reply_cells m.request (settled s m told).served
    pub session : s' ≡ (settled s m told).session

module _ {L H B G Dev : Type 0} (event : L → Event H → L → Type 0) (gives : Dev → (c : Call H B G) → Answer c → Dev → Type 0)
    (opens_backend : H → Result B Error → Type 0) (opens_gpu : H → Result G Error → Type 0) where
  -- a message is served by its row, or a fault stops it
  abbrev pub Answers : Message HeardReq H → Step H B G → State L H → Session → Dev → Result ⊤ declared.Error → State L H → Session → Dev → Type 0
  Answers m step old s d result new s' d' = serving.Answers event (Met gives opens_backend opens_gpu m step s d) (kept_unsent m.request s) old result new s' d'

  -- ---- a whole call, by the form of a handler

  -- one that was served
  abbrev pub Handled : State L H → Session → Dev → Result ⊤ Error → State L H → Session → Dev → Type 0
  Handled = serving.Handled event heard_in allows_handles (λ (t : Session). t.failed) kept_unsent (MeetsRow (fitting gives) opens_backend opens_gpu)

  -- one that was not
  abbrev pub Breaks : State L H → Session → Dev → declared.Error → State L H → Session → Dev → Type 0
  Breaks = serving.Breaks event heard_in allows_handles (λ (t : Session). t.failed) kept_unsent (MeetsRow (fitting gives) opens_backend opens_gpu)

  -- one call of the handler
  abbrev pub HandlesOne : State L H → Session → Dev → Result ⊤ declared.Error → State L H → Session → Dev → Type 0
  HandlesOne = serving.HandlesOne event heard_in allows_handles (λ (t : Session). t.failed) kept_unsent (MeetsRow (fitting gives) opens_backend opens_gpu)

  -- one call, whether or not the session is marked as failed
  abbrev pub CallsOnce : State L H → Session → Dev → Result ⊤ declared.Error → State L H → Session → Dev → Type 0
  CallsOnce = serving.CallsOnce event heard_in allows_handles (λ (t : Session). t.failed) kept_unsent (MeetsRow (fitting gives) opens_backend opens_gpu)

  -- so many calls, and their answers behind others
  abbrev pub Runs : State L H → Session → Dev → ℕ → List (Result ⊤ declared.Error) → List (Result ⊤ declared.Error) → State L H → Session → Dev → Type 0
  Runs = serving.Runs event heard_in allows_handles (λ (t : Session). t.failed) kept_unsent (MeetsRow (fitting gives) opens_backend opens_gpu)

-- ---- what a call became goes out

-- a refusal in silence
abbrev pub refused_silently : {H : Type 0} → Session → Error → Outcome H
refused_silently s e = record { answer = Err e; served = Silent; session = s }

-- The peer knows, and the session is the new one; or a fault stopped it.
pub data Finishes {L H : Type 0} (event : L → Event H → L → Type 0) (r : HeardReq) (o : Outcome H) (old : State L H) (s : Session) : Result ⊤ declared.Error → State L H → Session → Type 0 where
  finished : {result : Result ⊤ declared.Error} {new : State L H} {s' : Session} → o.answer ≡ seen_result result → Replies event old (reply_cells r o.served) new → s' ≡ o.session → Finishes event r o old s result new s'
  stopped : {e : declared.Error} {new : State L H} {s' : Session} → Stops event old (reply_cells r o.served) e new → s' ≡ kept_unsent r s o.session → Finishes event r o old s (Err e) new s'
