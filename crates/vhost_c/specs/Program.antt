-- What the calls of any program in C do to a frontend's session, one after another, in any order.
use Rattle.std.specs.Prelude.{◌≡◌, ◌≢◌, ℕ, Bool, true, false, not, ◌||◌, ◌==◌, List, [], ◌∷◌, Option, Some, None, ⊤}
use Rattle.vhost_message.specs.declared.error.Error.TheVariants.{InvalidParam, InvalidMessage, PartialMessage, IncorrectFds, BackendInternalError, OutOfMemory}
use Rattle.vhost_frontend_core.specs.Frontend.{endpoint_of}
use Rattle.vhost_frontend_core.specs.Values.{call_of}
use Rattle.vhost_c_common.specs.ByNumber.{By}
use Rattle.vhost_c_common.specs.Number.{number, error_number}
use Rattle.vhost_c_common.specs.Profile.{profile_at}
use Rattle.vhost_c_common.specs.declared.refusal.Refusal.TheVariants.{NoSession, SessionOpen, NotTaken, NothingAsked, NotYet, TooManyBytes, NoRoom, OtherAnswer}
use Rattle.vhost_c.specs.Answers.{ReadsNumber, ReadsBases, ReadsConfig, ReadsFd, ReadsInflight, ReadsShmem}
use Rattle.vhost_c.specs.Calls.{AtBoth, inactive_feature, inactive_operation, is_named, socket_broken, socket_retry}
use Rattle.vhost_c_frontend.specs.Session.{Abandoning, Claiming, Getting, LettingGo, Opens, ChoosesBy, AsksBy, RejectsBy, Sending, Receiving, Takes, TakesHeld, Reading, Stays, missing_at, inactive_at, view}
use Rattle.vhost_c.specs.declared.places.Places.{Places}
use Rattle.vhost_c.specs.declared.places.ProgramAnswer.{ProgramAnswer}
use Rattle.vhost_c.specs.declared.program.ProgramCall.{ProgramCall}
use Rattle.vhost_c.specs.declared.program.ProgramCall.TheVariants.{Open, SetProfile, Ask, AskInvalid, AskWithoutMemory, ToSend, Receive, Take, Read, Claim, Unclaimed, Abandon, Close}
use Rattle.vhost_c.specs.declared.program.ProgramRead.{ProgramRead}
use Rattle.vhost_c.specs.declared.program.ProgramRead.TheVariants.{Missing, Inactive, Number, Bases, Config, Fd, Inflight, Shmem}
use Rattle.vhost_c_frontend.specs.declared.session.Session.{Session}

-- What is read of a session, and is at these places then. What they held before stays where a list ends.
abbrev pub ReadsTo : ProgramRead → Places → Places → Option Session → ℕ → Option Session → Type 0
ReadsTo Missing before after old n new = (n ≡ 0) × (after.count ≡ missing_at old) × (new ≡ old)
ReadsTo Inactive before after old n new = (n ≡ 0) × (after.number ≡ inactive_at old) × (new ≡ old)
ReadsTo Number before after old n new = By (Reading (ReadsNumber after.number)) old n new
ReadsTo Bases before after old n new = By (Reading (ReadsBases before.numbers.items after.numbers.items after.count)) old n new
ReadsTo Config before after old n new = By (Reading (ReadsConfig after.config before.bytes.items after.bytes.items after.count)) old n new
ReadsTo Fd before after old n new = By (Reading (ReadsFd after.fd)) old n new
ReadsTo Inflight before after old n new = By (Reading (ReadsInflight after.inflight after.fd)) old n new
ReadsTo Shmem before after old n new = By (Reading (ReadsShmem before.numbers.items after.numbers.items after.count)) old n new

-- What a call does is what the contract of its export says.
abbrev pub Does : ProgramCall → ProgramAnswer → Option Session → Option Session → Type 0
Does (Open max_queue_num) a old new = Opens max_queue_num old a.number new
Does (SetProfile profile) a old new = ChoosesBy (profile_at profile) old a.number new
Does (Ask call) a old new = AsksBy (call_of call) old a.number new
Does AskInvalid a old new = RejectsBy InvalidParam old a.number new
Does AskWithoutMemory a old new = RejectsBy OutOfMemory old a.number new
Does (ToSend p) a old new = By (Sending a.places.bytes.items a.places.fds.items (a.places.byte_count, a.places.fd_count)) old a.number new × By (λ s o s'. s'.held ≡ s.held) old a.number new
Does (Receive bytes fds) a old new = By (Receiving bytes.items fds.items) old a.number new × By (Getting fds.items) old a.number new
Does Take a old new = By (λ s o s'. Takes s s' o) old a.number new × By (λ s o s'. TakesHeld s.held o s'.held) old a.number new
Does (Read what p) a old new = ReadsTo what p a.places old a.number new
Does (Claim fd) a old new = By (Claiming fd) old a.number new
Does (Unclaimed p) a old new = By (LettingGo p.fds.items a.places.count a.places.fds.items) old a.number new
Does Abandon a old new = By Abandoning old a.number new
Does Close a old new = (a.number ≡ 0) × (new ≡ None)

-- ---- what a call may answer

-- the numbers of the refusals of what reads: a list may have no room
abbrev pub read_refusals : ProgramRead → List ℕ
read_refusals Missing = []
read_refusals Inactive = []
read_refusals Number = number NoSession ∷ number OtherAnswer ∷ []
read_refusals Bases = number NoSession ∷ number OtherAnswer ∷ number NoRoom ∷ []
read_refusals Config = number NoSession ∷ number OtherAnswer ∷ number NoRoom ∷ []
read_refusals Fd = number NoSession ∷ number OtherAnswer ∷ []
read_refusals Inflight = number NoSession ∷ number OtherAnswer ∷ []
read_refusals Shmem = number NoSession ∷ number OtherAnswer ∷ number NoRoom ∷ []

-- those of a call, whatever its arguments and the session
abbrev pub refusals : ProgramCall → List ℕ
refusals (Open max_queue_num) = number SessionOpen ∷ error_number OutOfMemory ∷ []
refusals (SetProfile profile) = number NoSession ∷ error_number InvalidParam ∷ []
refusals (Ask call) = number NoSession ∷ number NotTaken ∷ error_number InvalidParam ∷ inactive_feature ∷ inactive_operation ∷ error_number OutOfMemory ∷ socket_retry ∷ socket_broken ∷ []
refusals AskInvalid = number NoSession ∷ error_number InvalidParam ∷ []
refusals AskWithoutMemory = number NoSession ∷ error_number OutOfMemory ∷ []
refusals (ToSend p) = number NoSession ∷ number NoRoom ∷ []
refusals (Receive bytes fds) = number NoSession ∷ number TooManyBytes ∷ error_number InvalidParam ∷ error_number OutOfMemory ∷ []
refusals Take = number NoSession ∷ number NothingAsked ∷ number NotYet ∷ error_number BackendInternalError ∷ error_number IncorrectFds ∷ error_number InvalidMessage ∷ error_number InvalidParam ∷ error_number PartialMessage
    ∷ error_number OutOfMemory ∷ socket_retry ∷ socket_broken ∷ []
refusals (Read what p) = read_refusals what
refusals (Claim fd) = number NoSession ∷ number OtherAnswer ∷ []
refusals (Unclaimed p) = number NoSession ∷ []
refusals Abandon = number NoSession ∷ []
refusals Close = []

-- ---- what a refusal leaves

-- All that the contracts see is as before.
abbrev pub IsAlike : Session → Session → Type 0
IsAlike old new = view new ≡ view old

-- An answer was refused: its call is over, and what waits to be handed out does.
pub record IsOver (old new : Session) : Type 0 where
  pub over : new.asked ≡ None
  pub outgoing : new.outgoing ≡ old.outgoing
  pub inactive : new.inactive ≡ old.inactive

-- to take is refused, and nothing was read
abbrev pub is_early : ℕ → Bool
is_early n = n == number NoSession || (n == number NothingAsked || n == number NotYet)

-- what that leaves: the session as it was; or nothing is asked any more
abbrev pub LeavesTaken : (early : Bool) → Option Session → Option Session → Type 0
LeavesTaken true old new = new ≡ old
LeavesTaken false old new = AtBoth IsOver old new

-- What a refusal of this number leaves: the session as it was; but an ask leaves what is to be sent and remembered, and what is asked.
abbrev pub Leaves : ProgramCall → ℕ → Option Session → Option Session → Type 0
Leaves (Ask call) n old new = AtBoth Stays old new
Leaves AskInvalid n old new = AtBoth Stays old new
Leaves AskWithoutMemory n old new = AtBoth Stays old new
Leaves (ToSend p) n old new = AtBoth IsAlike old new
Leaves (Receive bytes fds) n old new = AtBoth IsAlike old new
Leaves Take n old new = LeavesTaken (is_early n) old new
Leaves call n old new = new ≡ old

-- the calls that end none that was asked: all but to take, and to close
abbrev pub ends_none : ProgramCall → Bool
ends_none Take = false
ends_none Close = false
ends_none call = true

-- ---- soundness

-- Nothing broke the session's end of the connection, if there is a session.
abbrev pub IsSound : Option Session → Type 0
IsSound None = ⊤
IsSound (Some s) = (endpoint_of s.frontend).broken ≡ None

-- after the other two a session may be broken: memory was refused to its link; or to one whose answer had another size
abbrev pub is_harmless : ℕ → Bool
is_harmless n = not (n == socket_retry || n == error_number InvalidMessage)

-- ---- one call

-- A call of a program, whatever the program called before: it does what its contract says, answers 0 or one of its refusals, leaves the session so where it refuses, and breaks none where its answer is harmless.
pub record IsCalled (call : ProgramCall) (answer : ProgramAnswer) (old new : Option Session) : Type 0 where
  pub does : Does call answer old new
  pub named : is_named (refusals call) answer.number ≡ true
  pub leaves : answer.number ≢ 0 → Leaves call answer.number old new
  pub sound : is_harmless answer.number ≡ true → IsSound old → IsSound new
