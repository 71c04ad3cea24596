-- What the calls of any program in C do to a frontend's session of the backend channel, one after another, in any order.
use Rattle.std.specs.Prelude.{◌≡◌, ◌≢◌, ℕ, Bool, true, false, not, ◌||◌, ◌==◌, List, [], ◌∷◌, Option, Some, None, Ok, Err, ⊤}
use Rattle.vhost_message.specs.declared.error.Error.TheVariants.{InvalidParam, InvalidMessage, Disconnected, PartialMessage, OutOfMemory}
use Rattle.vhost_protocol.specs.Error.{Raw}
use Rattle.vhost_protocol.specs.IoError.{Because}
use Rattle.vhost_frontend_req_handler.specs.Core.{endpoint_of}
use Rattle.vhost_c_common.specs.ByNumber.{By}
use Rattle.vhost_c_common.specs.Number.{number, error_number}
use Rattle.vhost_c_common.specs.declared.refusal.Refusal.TheVariants.{NoSession, SessionOpen, NothingAsked, NotYet, TooManyBytes, NoRoom, NotReplied, OtherCall}
use Rattle.vhost_c_channel.specs.Arguments.{mmap_arg, fd_arg}
use Rattle.vhost_c_channel.specs.Serving.{Abandoning, Answering, Beginning, Claiming, Ending, Getting, LettingGo, Putting, Receiving, Sending, Telling, has_call, view}
use Rattle.vhost_c_channel.specs.declared.serving.ChannelServer.{ChannelServer}
use Rattle.vhost_c.specs.Calls.{AtBoth, is_named, socket_broken, socket_retry}
use Rattle.vhost_c.specs.Channel.{Acknowledging, OpensServer, missing_of_server}
use Rattle.vhost_c.specs.declared.places.Places.{Places}
use Rattle.vhost_c.specs.declared.places.ProgramAnswer.{ProgramAnswer}
use Rattle.vhost_c.specs.declared.program_server.ServerCall.{ServerCall}
use Rattle.vhost_c.specs.declared.program_server.ServerCall.TheVariants.{Open, SetReplyAck, Receive, End, ToSend, Next, Read, ReplyNumber, ReplyErrno, Claim, Unclaimed, Abandon, Close}
use Rattle.vhost_c.specs.declared.program_server.ServerRead.{ServerRead}
use Rattle.vhost_c.specs.declared.program_server.ServerRead.TheVariants as read

-- What is read of a session, or of the call that is to be replied to, and is at these places then.
abbrev pub ReadsTo : ServerRead → Places → Places → Option ChannelServer → ℕ → Option ChannelServer → Type 0
ReadsTo read.Missing before after old n new = (n ≡ 0) × (after.count ≡ missing_of_server old) × (new ≡ old)
ReadsTo read.Name before after old n new = By (Putting before.bytes.items after.bytes.items) old n new
ReadsTo read.Mmap before after old n new = By (Telling mmap_arg after.mmap) old n new
ReadsTo read.Fd before after old n new = By (Telling fd_arg after.fd) old n new

-- What a call does is what the contract of its export says.
abbrev pub Does : ServerCall → ProgramAnswer → Option ChannelServer → Option ChannelServer → Type 0
Does Open a old new = OpensServer old a.number new
Does (SetReplyAck on) a old new = By (Acknowledging on) old a.number new
Does (Receive bytes fds) a old new = By (Receiving bytes.items fds.items) old a.number new × By (Getting fds.items) old a.number new
Does End a old new = By Ending old a.number new
Does (ToSend p) a old new = By (Sending a.places.bytes.items a.places.fds.items (a.places.byte_count, a.places.fd_count)) old a.number new × By (λ s o s'. s'.held ≡ s.held) old a.number new
Does (Next p) a old new = By (Beginning a.places.code) old a.number new
Does (Read what p) a old new = ReadsTo what p a.places old a.number new
Does (ReplyNumber n) a old new = By (Answering (Ok n)) old a.number new
Does (ReplyErrno n) a old new = By (Answering (Err (Because (Raw n)))) old a.number new
Does (Claim fd) a old new = By (Claiming fd) old a.number new
Does (Unclaimed p) a old new = By (LettingGo p.fds.items a.places.count a.places.fds.items) old a.number new
Does Abandon a old new = By Abandoning old a.number new
Does Close a old new = (a.number ≡ 0) × (new ≡ None)

-- ---- what a call may answer

-- the refusals of what reads: a name may have no room
abbrev pub read_refusals : ServerRead → List ℕ
read_refusals read.Missing = []
read_refusals read.Name = number NoSession ∷ number OtherCall ∷ number NoRoom ∷ []
read_refusals read.Mmap = number NoSession ∷ number OtherCall ∷ []
read_refusals read.Fd = number NoSession ∷ number OtherCall ∷ []

-- those of a request: it is none, or its row refuses it; or memory was refused
abbrev pub request_refusals : List ℕ
request_refusals = error_number InvalidMessage ∷ error_number OutOfMemory ∷ socket_retry ∷ socket_broken ∷ []

-- those of a reply: its message may not go out
abbrev pub reply_refusals : List ℕ
reply_refusals = number NoSession ∷ number NothingAsked ∷ socket_retry ∷ []

-- those of a call, whatever its arguments and the session
abbrev pub refusals : ServerCall → List ℕ
refusals Open = number SessionOpen ∷ error_number OutOfMemory ∷ []
refusals (SetReplyAck on) = number NoSession ∷ []
refusals (Receive bytes fds) = number NoSession ∷ number TooManyBytes ∷ error_number InvalidParam ∷ error_number OutOfMemory ∷ []
refusals End = number NoSession ∷ error_number Disconnected ∷ error_number PartialMessage ∷ error_number InvalidMessage ∷ []
refusals (ToSend p) = number NoSession ∷ number NoRoom ∷ []
refusals (Next p) = number NoSession ∷ number NotReplied ∷ number NotYet ∷ request_refusals
refusals (Read what p) = read_refusals what
refusals (ReplyNumber n) = reply_refusals
refusals (ReplyErrno n) = reply_refusals
refusals (Claim fd) = number NoSession ∷ number OtherCall ∷ []
refusals (Unclaimed p) = number NoSession ∷ []
refusals Abandon = number NoSession ∷ []
refusals Close = []

-- ---- what a refusal leaves

-- All that the contracts see is as before.
abbrev pub IsAlike : ChannelServer → ChannelServer → Type 0
IsAlike old new = view new ≡ view old

-- A request was refused: no call is to be replied to, and nothing of the request is left.
pub record IsDenied (old new : ChannelServer) : Type 0 where
  pub idle : has_call new ≡ false
  pub nothing_came : new.incoming.count ≡ 0
  pub outgoing : new.outgoing ≡ old.outgoing

-- A call was replied to, and failed: none is to be replied to any more, and what came of the next request is as before.
pub record IsConcluded (old new : ChannelServer) : Type 0 where
  pub idle : has_call new ≡ false
  pub incoming : new.incoming ≡ old.incoming

-- to read the next request is refused, and none was read
abbrev pub is_early : ℕ → Bool
is_early n = n == number NoSession || (n == number NotReplied || n == number NotYet)

-- what that leaves: the session as it was; or the request is gone
abbrev pub LeavesNext : (early : Bool) → Option ChannelServer → Option ChannelServer → Type 0
LeavesNext true old new = new ≡ old
LeavesNext false old new = AtBoth IsDenied old new

-- what a refused reply leaves, after it was one or before: the call was replied to; or the session as it was
abbrev pub LeavesReply : (late : Bool) → Option ChannelServer → Option ChannelServer → Type 0
LeavesReply true old new = AtBoth IsConcluded old new
LeavesReply false old new = new ≡ old

-- What a refusal of this number leaves: the session as it was, but for a request that was refused, and a reply that failed.
abbrev pub Leaves : ServerCall → ℕ → Option ChannelServer → Option ChannelServer → Type 0
Leaves (Receive bytes fds) n old new = AtBoth IsAlike old new
Leaves (ToSend p) n old new = AtBoth IsAlike old new
Leaves (Next p) n old new = LeavesNext (is_early n) old new
Leaves (ReplyNumber k) n old new = LeavesReply (n == socket_retry) old new
Leaves (ReplyErrno k) n old new = LeavesReply (n == socket_retry) old new
Leaves call n old new = new ≡ old

-- ---- soundness

-- Nothing broke the session's end of the connection, if there is a session.
abbrev pub IsSound : Option ChannelServer → Type 0
IsSound None = ⊤
IsSound (Some s) = (endpoint_of s.core).broken ≡ None

-- after the other a session may be broken: memory was refused to its link
abbrev pub is_harmless : ℕ → Bool
is_harmless n = not (n == socket_retry)

-- ---- one call

-- A call of a program, whatever the program called before: it does what its contract says, answers 0 or one of its refusals, leaves the session so where it refuses, and breaks none where its answer is harmless.
pub record IsCalled (call : ServerCall) (answer : ProgramAnswer) (old new : Option ChannelServer) : Type 0 where
  pub does : Does call answer old new
  pub named : is_named (refusals call) answer.number ≡ true
  pub leaves : answer.number ≢ 0 → Leaves call answer.number old new
  pub sound : is_harmless answer.number ≡ true → IsSound old → IsSound new
