-- What the calls of any program in C do to a backend's session, one after another, in any order.
use Rattle.std.specs.Borrow.{Bor}
use Rattle.std.specs.Prelude.{◌≡◌, ◌≢◌, ℕ, Bool, true, false, not, ◌||◌, ◌==◌, List, [], ◌∷◌, Option, Some, None, ⊤}
use Rattle.vhost_message.specs.declared.error.Error.TheVariants.{InvalidParam, InvalidMessage, Disconnected, PartialMessage, IncorrectFds, BackendInternalError, FrontendInternalError, OutOfMemory}
use Rattle.vhost_backend_req_handler.specs.Core.{endpoint_of}
use Rattle.vhost_c_common.specs.ByNumber.{By}
use Rattle.vhost_c_common.specs.Number.{number, error_number}
use Rattle.vhost_c_common.specs.Profile.{profile_at}
use Rattle.vhost_c_common.specs.declared.refusal.Refusal.TheVariants.{NoSession, SessionOpen, NothingAsked, NotYet, TooManyBytes, NoRoom, NotReplied, OtherCall}
use Rattle.vhost_c_backend.specs.Arguments.{number_arg, ring_arg, vring_arg, ring_fd_arg, fd_arg, inflight_arg, transfer_arg, log_arg, PutsRegions, PutsConfig, PutsName, PutsOther, PutsFds}
use Rattle.vhost_c_backend.specs.Served.{Abandoning, Choosing, Claiming, Ending, Getting, LettingGo, Receiving, Sending, has_call, queued, view}
use Rattle.vhost_c_backend.specs.Serving.{Answering, AnsweringShmem, Beginning, Putting, Telling}
use Rattle.vhost_c_backend.specs.declared.replies.Reply.TheVariants as reply
use Rattle.vhost_c_backend.specs.declared.served.Served.{Served}
use Rattle.vhost_c.specs.Backend.{OpensBackend, missing_at, inactive_at, ended_at}
use Rattle.vhost_c.specs.Calls.{AtBoth, inactive_feature, inactive_operation, invalid_operation, is_named, socket_broken, socket_retry}
use Rattle.vhost_c.specs.declared.places.Places.{Places}
use Rattle.vhost_c.specs.declared.places.ProgramAnswer.{ProgramAnswer}
use Rattle.vhost_c.specs.declared.program_backend.BackendCall.{BackendCall}
use Rattle.vhost_c.specs.declared.program_backend.BackendCall.TheVariants.{Open, SetProfile, Receive, End, ToSend, Next, Read, Reply, Claim, Unclaimed, Abandon, Close}
use Rattle.vhost_c.specs.declared.program_backend.BackendRead.{BackendRead}
use Rattle.vhost_c.specs.declared.program_backend.BackendRead.TheVariants as read
use Rattle.vhost_c.specs.declared.program_backend.BackendReply.{BackendReply}
use Rattle.vhost_c.specs.declared.program_backend.BackendReply.TheVariants as answer

-- What is read of a session, or of the call that is to be replied to, and is at these places then. What they held before stays where a list ends.
abbrev pub ReadsTo : BackendRead → Places → Places → Option Served → ℕ → Option Served → Type 0
ReadsTo read.Missing before after old n new = (n ≡ 0) × (after.count ≡ missing_at old) × (new ≡ old)
ReadsTo read.Inactive before after old n new = (n ≡ 0) × (after.number ≡ inactive_at old) × (new ≡ old)
ReadsTo read.Ended before after old n new = (n ≡ 0) × (after.value ≡ ended_at old) × (new ≡ old)
ReadsTo read.Number before after old n new = By (Telling (λ hs c. number_arg c) after.number) old n new
ReadsTo read.Ring before after old n new = By (Telling (λ hs c. ring_arg c) (after.index, after.value)) old n new
ReadsTo read.Vring before after old n new = By (Telling (λ hs c. vring_arg c) (after.index, after.ring)) old n new
ReadsTo read.RingFd before after old n new = By (Telling ring_fd_arg (after.index, after.fd)) old n new
ReadsTo read.Regions before after old n new = By (Putting PutsRegions before.regions.items after.regions.items (after.count, after.listening)) old n new
ReadsTo read.Config before after old n new = By (Putting (λ hs c. PutsConfig c) before.bytes.items after.bytes.items (after.count, after.config)) old n new
ReadsTo read.Fd before after old n new = By (Telling fd_arg after.fd) old n new
ReadsTo read.Name before after old n new = By (Putting (λ hs c. PutsName c) before.bytes.items after.bytes.items tt) old n new
ReadsTo read.Inflight before after old n new = By (Telling inflight_arg (after.inflight, after.fd)) old n new
ReadsTo read.Transfer before after old n new = By (Telling transfer_arg (after.direction, after.phase, after.fd)) old n new
ReadsTo read.Log before after old n new = By (Telling log_arg after.region) old n new
ReadsTo read.Other before after old n new = By (Putting (λ hs c. PutsOther c) before.bytes.items after.bytes.items (after.count, after.code)) old n new
ReadsTo read.Fds before after old n new = By (Putting PutsFds before.fds.items after.fds.items (after.count, tt)) old n new

-- What a reply does. Lists are lent.
abbrev pub RepliesBy : BackendReply → Option Served → ℕ → Option Served → Type 0
RepliesBy answer.Done old n new = By (Answering reply.Done) old n new
RepliesBy answer.Refused old n new = By (Answering reply.Refused) old n new
RepliesBy (answer.Number number) old n new = By (Answering (reply.Number number)) old n new
RepliesBy (answer.Ring index number) old n new = By (Answering (reply.Ring index number)) old n new
RepliesBy (answer.Bases bases) old n new = (lent : Bor (List ℕ)) × (lent.now ≡ bases.items) × By (Answering (reply.Bases lent)) old n new
RepliesBy (answer.Config bytes) old n new = (lent : Bor (List ℕ)) × (lent.now ≡ bytes.items) × By (Answering (reply.Config lent)) old n new
RepliesBy (answer.Fd fd) old n new = By (Answering (reply.Fd fd)) old n new
RepliesBy (answer.Inflight area fd) old n new = By (Answering (reply.Inflight area fd)) old n new
RepliesBy (answer.Shmem sizes count) old n new = By (AnsweringShmem count sizes.items) old n new

-- What a call does is what the contract of its export says.
abbrev pub Does : BackendCall → ProgramAnswer → Option Served → Option Served → Type 0
Does Open a old new = OpensBackend old a.number new
Does (SetProfile profile) a old new = By (Choosing (profile_at profile)) old a.number new
Does (Receive bytes fds) a old new = By (Receiving bytes.items fds.items) old a.number new × By (Getting fds.items) old a.number new
Does End a old new = By Ending old a.number new
Does (ToSend p) a old new = By (Sending a.places.bytes.items a.places.fds.items (a.places.byte_count, a.places.fd_count)) old a.number new × By (λ s o s'. s'.held ≡ s.held) old a.number new
Does (Next p) a old new = By (Beginning a.places.code) old a.number new
Does (Read what p) a old new = ReadsTo what p a.places old a.number new
Does (Reply r) a old new = RepliesBy r old a.number new
Does (Claim fd) a old new = By (Claiming fd) old a.number new
Does (Unclaimed p) a old new = By (LettingGo p.fds.items a.places.count a.places.fds.items) old a.number new
Does Abandon a old new = By Abandoning old a.number new
Does Close a old new = (a.number ≡ 0) × (new ≡ None)

-- ---- what a call may answer

-- the refusals of what reads: a list may have no room
abbrev pub read_refusals : BackendRead → List ℕ
read_refusals read.Missing = []
read_refusals read.Inactive = []
read_refusals read.Ended = []
read_refusals read.Regions = number NoSession ∷ number OtherCall ∷ number NoRoom ∷ []
read_refusals read.Config = number NoSession ∷ number OtherCall ∷ number NoRoom ∷ []
read_refusals read.Name = number NoSession ∷ number OtherCall ∷ number NoRoom ∷ []
read_refusals read.Other = number NoSession ∷ number OtherCall ∷ number NoRoom ∷ []
read_refusals read.Fds = number NoSession ∷ number OtherCall ∷ number NoRoom ∷ []
read_refusals _ = number NoSession ∷ number OtherCall ∷ []

-- those of each reply: its message may not go out
abbrev pub replying : List ℕ
replying = number NoSession ∷ number NothingAsked ∷ socket_retry ∷ []

-- those of a reply: it has another form, its argument is not allowed, there is no memory for a list, the device refuses, or bases are missing
abbrev pub reply_refusals : BackendReply → List ℕ
reply_refusals answer.Done = number OtherCall ∷ error_number BackendInternalError ∷ replying
reply_refusals answer.Refused = error_number BackendInternalError ∷ replying
reply_refusals (answer.Number n) = number OtherCall ∷ replying
reply_refusals (answer.Ring index n) = number OtherCall ∷ replying
reply_refusals (answer.Bases bases) = number OtherCall ∷ error_number OutOfMemory ∷ error_number BackendInternalError ∷ replying
reply_refusals (answer.Config bytes) = number OtherCall ∷ error_number InvalidParam ∷ error_number OutOfMemory ∷ replying
reply_refusals (answer.Fd fd) = number OtherCall ∷ error_number InvalidParam ∷ replying
reply_refusals (answer.Inflight area fd) = number OtherCall ∷ error_number InvalidParam ∷ replying
reply_refusals (answer.Shmem sizes count) = number OtherCall ∷ error_number InvalidParam ∷ replying

-- those of a request: its row refuses it, or memory was refused
abbrev pub request_refusals : List ℕ
request_refusals = error_number InvalidParam ∷ invalid_operation ∷ inactive_feature ∷ inactive_operation ∷ error_number InvalidMessage ∷ error_number IncorrectFds ∷ error_number FrontendInternalError ∷ error_number OutOfMemory ∷ socket_retry ∷ socket_broken ∷ []

-- those of a call, whatever its arguments and the session
abbrev pub refusals : BackendCall → List ℕ
refusals Open = number SessionOpen ∷ error_number OutOfMemory ∷ []
refusals (SetProfile profile) = number NoSession ∷ error_number InvalidParam ∷ number NotReplied ∷ []
refusals (Receive bytes fds) = number NoSession ∷ number TooManyBytes ∷ error_number InvalidParam ∷ error_number OutOfMemory ∷ []
refusals End = number NoSession ∷ error_number Disconnected ∷ error_number PartialMessage ∷ error_number InvalidMessage ∷ []
refusals (ToSend p) = number NoSession ∷ number NoRoom ∷ []
refusals (Next p) = number NoSession ∷ number NotReplied ∷ number NotYet ∷ request_refusals
refusals (Read what p) = read_refusals what
refusals (Reply r) = reply_refusals r
refusals (Claim fd) = number NoSession ∷ number OtherCall ∷ []
refusals (Unclaimed p) = number NoSession ∷ []
refusals Abandon = number NoSession ∷ []
refusals Close = []

-- ---- what a refusal leaves

-- All that the contracts see is as before.
abbrev pub IsAlike : Served → Served → Type 0
IsAlike old new = view new ≡ view old

-- A request was refused, or the session has ended: no call is to be replied to, and nothing of the request is left.
pub record IsDenied (old new : Served) : Type 0 where
  pub idle : has_call new ≡ false
  pub nothing_came : new.incoming.count ≡ 0
  pub outgoing : new.outgoing ≡ old.outgoing

-- A call was replied to, and failed: none is to be replied to any more, and what came of the next request is as before.
pub record IsConcluded (old new : Served) : Type 0 where
  pub idle : has_call new ≡ false
  pub incoming : new.incoming ≡ old.incoming

-- to read the next request is refused, and none was read
abbrev pub is_early : ℕ → Bool
is_early n = n == number NoSession || (n == number NotReplied || n == number NotYet)

-- what that leaves: the session as it was; or the request is gone
abbrev pub LeavesNext : (early : Bool) → Option Served → Option Served → Type 0
LeavesNext true old new = new ≡ old
LeavesNext false old new = AtBoth IsDenied old new

-- a reply is refused after it was one
abbrev pub is_late : ℕ → Bool
is_late n = n == error_number BackendInternalError || n == socket_retry

-- what that leaves: the call was replied to; or the session as it was
abbrev pub LeavesReply : (late : Bool) → Option Served → Option Served → Type 0
LeavesReply true old new = AtBoth IsConcluded old new
LeavesReply false old new = new ≡ old

-- What a refusal of this number leaves: the session as it was, but for a request that was refused, and a reply that failed.
abbrev pub Leaves : BackendCall → ℕ → Option Served → Option Served → Type 0
Leaves (Receive bytes fds) n old new = AtBoth IsAlike old new
Leaves (ToSend p) n old new = AtBoth IsAlike old new
Leaves (Next p) n old new = LeavesNext (is_early n) old new
Leaves (Reply r) n old new = LeavesReply (is_late n) old new
Leaves call n old new = new ≡ old

-- ---- soundness

-- Nothing broke the session's end of the connection, if there is a session.
abbrev pub IsSound : Option Served → Type 0
IsSound None = ⊤
IsSound (Some s) = (endpoint_of s.core).broken ≡ None

-- after the other a session may be broken: memory was refused to its link
abbrev pub is_harmless : ℕ → Bool
is_harmless n = not (n == socket_retry)

-- ---- one call

-- A call of a program, whatever the program called before: it does what its contract says, answers 0 or one of its refusals, leaves the session so where it refuses, and breaks none where its answer is harmless.
pub record IsCalled (call : BackendCall) (answer : ProgramAnswer) (old new : Option Served) : Type 0 where
  pub does : Does call answer old new
  pub named : is_named (refusals call) answer.number ≡ true
  pub leaves : answer.number ≢ 0 → Leaves call answer.number old new
  pub sound : is_harmless answer.number ≡ true → IsSound old → IsSound new
