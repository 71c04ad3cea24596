-- Whoever waits is answered: the laws of what a request becomes.
use Rattle.std.specs.Prelude.{◌≡◌, ℕ, true, false, ◌⊎◌, List, Some, Result, Err, is_ok, is_some, length, ⊤}
use Rattle.vhost_message.specs.declared.heard_req.HeardReq.{HeardReq}
use Rattle.vhost_protocol.specs.declared.profile.Profile.{Profile}
use Rattle.vhost_protocol.specs.declared.profile.Profile.TheVariants.{Vhost, Standard}
use Rattle.vhost_protocol.specs.Agreement.{IsNegotiated, Fits}
use Rattle.vhost_protocol.specs.AnswerTable.{Answered, answer, answered}
use Rattle.vhost_protocol.specs.Ask.{Asked, Refuses, Answers, Sends, ask}
use Rattle.vhost_protocol.specs.declared.asked.Awaited.{Awaited}
use Rattle.vhost_protocol.specs.declared.asked.Awaited.TheVariants.{Reply}
use Rattle.vhost_protocol.specs.FrontendCall.{FrontendCall, Frontend}
use Rattle.vhost_protocol.specs.Heard.{CallFits}
use Rattle.vhost_protocol.specs.Joined.{AgreeOn, read_as, stops}
use Rattle.vhost_protocol.specs.DeviceCall.{Answer}
use Rattle.vhost_protocol.specs.Error.{Error, BackendInternalError}
use Rattle.vhost_protocol.specs.Row.{row, row_of}
use Rattle.vhost_protocol.specs.Served.{Served, Silent, Acknowledged, Replied}
use Rattle.vhost_protocol.specs.Session.{Session}
use Rattle.vhost_protocol.specs.Settled.{has_reply, awaits_reply, is_awaited, is_unanswered, refused_reply, settled}
use Rattle.vhost_protocol.specs.Split.{Message}
use Rattle.vhost_protocol.specs.Step.{Outcome, Step, Refused, Calls, OpensBackend, OpensGpu}
use Rattle.vhost_protocol.specs.Written.{payload_text}

-- ---- a request that came whole

-- What is written was waited for: an acknowledgement says whether it succeeded, and a reply is of a request that has one.
abbrev pub IsAsked : {H : Type 0} → Session → Message HeardReq H → Result ⊤ Error → Served H → Session → Type 0
IsAsked s m answer Silent t = ⊤
IsAsked s m answer (Acknowledged agreed) t = (agreed ≡ is_ok answer) × (is_awaited s m (record { answer = answer; served = Acknowledged agreed; session = t }) ≡ true)
IsAsked s m answer (Replied payload handles) t = awaits_reply s m ≡ true

-- whoever waits is answered once, or the session has ended; and nobody else is
pub record AnswersWell {H : Type 0} (s : Session) (m : Message HeardReq H) (o : Outcome H) : Type 0 where
  pub answered : is_awaited s m o ≡ true → (is_unanswered (awaits_reply s m) o.served ≡ false) ⊎ (is_some o.session.failed ≡ true)
  pub asked : IsAsked s m o.answer o.served o.session

-- whatever the device answers
abbrev pub AllWell : {H B G : Type 0} → Session → Message HeardReq H → Step H B G → Type 0
AllWell s m (Refused refusal) = AnswersWell s m (settled s m (record { answer = Err refusal.error; served = refusal.served; session = s }))
AllWell s m (Calls c next) = (a : Answer c) → AnswersWell s m (settled s m (next a))
AllWell {B = B} s m (OpensBackend h next) = (opened : Result B Error) → AllWell s m (next opened)
AllWell {G = G} s m (OpensGpu h next) = (opened : Result G Error) → AllWell s m (next opened)

-- Under Standard each request is answered well.
abbrev pub WhoeverWaitsIsAnswered : (H B G : Type 0) → Type 0
WhoeverWaitsIsAnswered H B G = (s : Session) (m : Message HeardReq H) → s.profile ≡ Standard → AllWell {B = B} {G = G} s m (row s m)

-- Under Vhost a request becomes what the table has, no more.
abbrev pub VhostIsTheTable : (H : Type 0) → Type 0
VhostIsTheTable H = (s : Session) (m : Message HeardReq H) (o : Outcome H) → s.profile ≡ Vhost → settled s m o ≡ o

-- ---- the table

-- the same before silence is settled
abbrev pub AllAsked : {H B G : Type 0} → Session → Message HeardReq H → Step H B G → Type 0
AllAsked s m (Refused refusal) = IsAsked s m (Err refusal.error) refusal.served s
AllAsked s m (Calls c next) = (a : Answer c) → IsAsked s m (next a).answer (next a).served (next a).session
AllAsked {B = B} s m (OpensBackend h next) = (opened : Result B Error) → AllAsked s m (next opened)
AllAsked {G = G} s m (OpensGpu h next) = (opened : Result G Error) → AllAsked s m (next opened)

-- the table writes only what was waited for
abbrev pub RowsAreAsked : (H B G : Type 0) → Type 0
RowsAreAsked H B G = (r : HeardReq) (s : Session) (m : Message HeardReq H) → awaits_reply s m ≡ has_reply r s (length m.body) → AllAsked {B = B} {G = G} s m (row_of r s m)

-- ---- both sides

-- the answer table knows what came, and both sides agree from then on, unless the session has ended
pub record IsHeard {H : Type 0} (call : FrontendCall H) (awaited : Awaited) (g : Frontend) (o : Outcome H) : Type 0 where
  pub to_caller : Answered H
  pub known : answer call awaited g o.served ≡ Some to_caller
  pub agree : is_some o.session.failed ≡ false → AgreeOn (to_caller.session) o.session

-- whatever the device answers
abbrev pub AllHeard : {H B G : Type 0} → FrontendCall H → Awaited → Frontend → Session → Message HeardReq H → Step H B G → Type 0
AllHeard call awaited g s m (Refused refusal) = IsHeard call awaited g (settled s m (record { answer = Err refusal.error; served = refusal.served; session = s }))
AllHeard call awaited g s m (Calls c next) = (a : Answer c) → IsHeard call awaited g (settled s m (next a))
AllHeard {B = B} call awaited g s m (OpensBackend h next) = (opened : Result B Error) → AllHeard call awaited g s m (next opened)
AllHeard {G = G} call awaited g s m (OpensGpu h next) = (opened : Result G Error) → AllHeard call awaited g s m (next opened)

-- whatever becomes of a call
abbrev pub StaysHeard : {H : Type 0} → (B G : Type 0) → Session → FrontendCall H → Asked H → Type 0
StaysHeard B G s call (Refuses e) = ⊤
StaysHeard B G s call (Answers v g) = AgreeOn g s
StaysHeard B G s call (Sends w awaited g) = AllHeard {B = B} {G = G} call awaited g s (read_as w) (row s (read_as w))

-- ---- a refusal

-- It is an error of the backend, behind which the frontend goes on; or nothing is said, since the session has ended.
abbrev pub SaysRefused : {H : Type 0} → FrontendCall H → Awaited → Frontend → Served H → Type 0
SaysRefused call awaited f Silent = ⊤
SaysRefused call awaited f served = (g : Frontend) × (answer call awaited f served ≡ Some (answered g (Err BackendInternalError)))

-- the reply in which a request is refused says so, whatever the error was
abbrev pub RefusalIsSaid : {H : Type 0} → FrontendCall H → Awaited → Frontend → HeardReq → (body : List ℕ) → Type 0
RefusalIsSaid {H} call awaited f r body =
    (e : Error) (t : Session) → SaysRefused call awaited f (refused_reply {H = H} r body (record { answer = Err e; served = Silent; session = t })).served

-- whatever becomes of a call
abbrev pub RefusesAloud : {H : Type 0} → FrontendCall H → Asked H → Type 0
RefusesAloud call (Sends w (Reply shape) g) = RefusalIsSaid call (Reply shape) g w.request (payload_text w.payload)
RefusesAloud call _ = ⊤

-- Under Standard the refusal of no call ends its frontend's session: each form in which a reply refuses is taken as an error of the backend.
abbrev pub RefusalsAreHeard : (H : Type 0) → Type 0
RefusalsAreHeard H = (f : Frontend) (call : FrontendCall H) → f.profile ≡ Standard → CallFits call → RefusesAloud call (ask f call)

-- ---- what was served

-- the answer table knows what came, and both sides agree from then on, unless the run stops there
pub record IsServed {H : Type 0} (profile : Profile) (call : FrontendCall H) (awaited : Awaited) (g : Frontend) (r : HeardReq) (o : Outcome H) : Type 0 where
  pub to_caller : Answered H
  pub known : answer call awaited g o.served ≡ Some to_caller
  pub agree : stops profile r o ≡ false → AgreeOn (to_caller.session) o.session

-- Under Standard on both sides, for each call of two sides that agree: the answer table knows what came, and both agree after it, unless the session has ended. No silence is the last step.
abbrev pub NoSilentStop : (H B G : Type 0) → Type 0
NoSilentStop H B G = (f : Frontend) (s : Session) (call : FrontendCall H) → f.profile ≡ Standard → s.profile ≡ Standard → AgreeOn f s → IsNegotiated f → Fits call → StaysHeard B G s call (ask f call)
