-- Whoever waits is answered, over the calls of a session one after another.
use Rattle.std.specs.Prelude.{◌≡◌, ℕ, ℤ, Bool, Option, Some, None, List, [], ◌∷◌, ◌++◌, length, map, Result, Ok, Err, ⊤}
use Rattle.vhost_message.specs.declared.error.Error as declared
use Rattle.vhost_message.specs.declared.heard_req.HeardReq.{HeardReq}
use Rattle.vhost_message.specs.HeardReq.{request_number}
use Rattle.vhost_protocol.specs.Answering.{AnswersWell}
use Rattle.vhost_protocol.specs.Codes.{allows_handles}
use Rattle.vhost_protocol.specs.Error.{Error, SocketBroken, Raw, seen_result}
use Rattle.vhost_protocol.specs.Served.{reply, cells_of}
use Rattle.vhost_protocol.specs.Session.{Session, heard_in}
use Rattle.vhost_protocol.specs.Split.{Message, split, Splits}
use Rattle.vhost_protocol.specs.Step.{Outcome}
use Rattle.vhost_protocol.specs.Stream.{Cell, Item, heard}
use Rattle.vhost_link.specs.Law.{Event, Move}
use Rattle.vhost_connection.specs.Talk.{State, Talks}

-- what came is this message, whole, and no more; or it is none, and why
abbrev pub IsHeard : {H : Type 0} → Session → List (Item H) → Result (Message HeardReq H) Error → Type 0
IsHeard {H = H} s came outcome = (cells : List (Cell H)) × (ended : Bool) × (came ≡ heard cells ended) × Splits (split (heard_in s) allows_handles) cells ended outcome

-- Calls one after another, over what came and what was written, from a session to the one behind them. A session that has ended reads nothing, and says so. A call to which no whole request came writes nothing and changes nothing. Each other one served the message that came: where somebody waited for it a reply or an acknowledgement was written, one message, or the session ended; and where nobody did, nothing was.
pub data AllAnswered {H : Type 0} : Session → List (Result ⊤ Error) → List (Item H) → List (Cell H) → Session → Type 0 where
  no_more : {s : Session} → AllAnswered s [] [] [] s
  ended : {s s' : Session} {answers : List (Result ⊤ Error)} {came : List (Item H)} {written : List (Cell H)} (n : ℤ) → s.failed ≡ Some n
      → AllAnswered s answers came written s' → AllAnswered s (Err (SocketBroken (Raw n)) ∷ answers) came written s'
  not_whole : {s s' : Session} {answers : List (Result ⊤ Error)} {came : List (Item H)} {written : List (Cell H)} (e : Error) (now : List (Item H)) → s.failed ≡ None → IsHeard s now (Err e)
      → AllAnswered s answers came written s' → AllAnswered s (Err e ∷ answers) (now ++ came) written s'
  served : {s s' : Session} {answers : List (Result ⊤ Error)} {came : List (Item H)} {written : List (Cell H)} (m : Message HeardReq H) (o : Outcome H) (now : List (Item H)) → s.failed ≡ None → IsHeard s now (Ok m) → AnswersWell s m o
      → AllAnswered o.session answers came written s' → AllAnswered s (o.answer ∷ answers) (now ++ came) (cells_of request_number (reply m.request o.served) ++ written) s'

-- so many calls, over what the link gave and what was written to it, and nothing else
pub record AnswersWaiting {L H : Type 0} (event : L → Event H → L → Type 0) (old : State L H) (s : Session) (count : ℕ) (answers : List (Result ⊤ declared.Error)) (new : State L H) (s' : Session) : Type 0 where
  pub move : Move H
  pub talks : Talks event old move new
  pub failures : move.failures ≡ 0
  pub all : AllAnswered s (map (λ a. seen_result a) answers) move.handed move.taken s'
  pub as_many : length answers ≡ count
