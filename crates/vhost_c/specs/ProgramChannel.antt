-- What the calls of any program in C do to a device's session of the backend channel, one after another, in any order.
use Rattle.std.specs.Prelude.{◌≡◌, ◌≢◌, ℕ, Bool, true, false, not, ◌||◌, ◌==◌, List, [], ◌∷◌, length, Option, Some, None, ⊤}
use Rattle.vhost_message.specs.declared.error.Error.TheVariants.{InvalidParam, InvalidMessage, FrontendInternalError, OutOfMemory}
use Rattle.vhost_protocol.specs.Reverse as reverse
use Rattle.vhost_c_common.specs.ByNumber.{By}
use Rattle.vhost_c_common.specs.Number.{number, error_number}
use Rattle.vhost_c_common.specs.Records.{handle_in}
use Rattle.vhost_c_common.specs.declared.refusal.Refusal.TheVariants.{NoSession, SessionOpen, NotTaken, NothingAsked, NotYet, TooManyBytes, NoRoom}
use Rattle.vhost_c_channel.specs.Asking.{Getting, LettingGo, Receiving, Sending, Settles, Stays, Takes, endpoint_of, view}
use Rattle.vhost_c_channel.specs.Records.{mmap_in}
use Rattle.vhost_c_channel.specs.declared.asking.Channel.{Channel}
use Rattle.vhost_c.specs.Calls.{AtBoth, inactive_operation, is_named, socket_broken, socket_retry}
use Rattle.vhost_c.specs.Channel.{Agreeing, AsksBy, AsksUnless, AsksWith, OpensChannel, missing_at}
use Rattle.vhost_c.specs.declared.places.Places.{Places}
use Rattle.vhost_c.specs.declared.places.ProgramAnswer.{ProgramAnswer}
use Rattle.vhost_c.specs.declared.program_channel.ChannelAsk.{ChannelAsk}
use Rattle.vhost_c.specs.declared.program_channel.ChannelAsk.TheVariants as ask
use Rattle.vhost_c.specs.declared.program_channel.ChannelCall.{ChannelCall}
use Rattle.vhost_c.specs.declared.program_channel.ChannelCall.TheVariants.{Open, Agree, Ask, ToSend, Missing, Receive, Take, Unclaimed, Close}

-- What an ask does.
abbrev pub AsksTo : ChannelAsk → Option Channel → ℕ → Option Channel → Type 0
AsksTo ask.ConfigChange old n new = AsksBy reverse.HandleConfigChange old n new
AsksTo (ask.SharedObjectAdd name) old n new = AsksUnless (length name.items ≢ 16) (reverse.SharedObjectAdd (record { uuid = name.items })) old n new
AsksTo (ask.SharedObjectRemove name) old n new = AsksUnless (length name.items ≢ 16) (reverse.SharedObjectRemove (record { uuid = name.items })) old n new
AsksTo (ask.SharedObjectLookup name fd) old n new = AsksWith (handle_in fd) (λ h. AsksUnless (length name.items ≢ 16) (reverse.SharedObjectLookup (record { uuid = name.items }) h)) old n new
AsksTo (ask.ShmemMap mmap fd) old n new = AsksWith (handle_in fd) (λ h. AsksBy (reverse.ShmemMap (mmap_in mmap) h)) old n new
AsksTo (ask.ShmemUnmap mmap) old n new = AsksBy (reverse.ShmemUnmap (mmap_in mmap)) old n new

-- What a call does is what the contract of its export says.
abbrev pub Does : ChannelCall → ProgramAnswer → Option Channel → Option Channel → Type 0
Does Open a old new = OpensChannel old a.number new
Does (Agree feature on) a old new = By (Agreeing feature on) old a.number new
Does (Ask what) a old new = AsksTo what old a.number new
Does (ToSend p) a old new = By (Sending a.places.bytes.items a.places.fds.items (a.places.byte_count, a.places.fd_count)) old a.number new × By (λ s o s'. s'.held ≡ s.held) old a.number new
Does (Missing p) a old new = (a.number ≡ 0) × (a.places.count ≡ missing_at old) × (new ≡ old)
Does (Receive bytes fds) a old new = By (Receiving bytes.items fds.items) old a.number new × By (Getting fds.items) old a.number new
Does Take a old new = By (λ s o s'. Takes s s' o) old a.number new
Does (Unclaimed p) a old new = By (LettingGo p.fds.items a.places.count a.places.fds.items) old a.number new
Does Close a old new = (a.number ≡ 0) × (new ≡ None)

-- ---- what a call may answer

-- the refusals of each ask
abbrev pub asking : List ℕ
asking = number NoSession ∷ number NotTaken ∷ inactive_operation ∷ error_number OutOfMemory ∷ socket_retry ∷ socket_broken ∷ []

-- those of an ask: its name or its descriptor may not be allowed
abbrev pub ask_refusals : ChannelAsk → List ℕ
ask_refusals ask.ConfigChange = asking
ask_refusals (ask.ShmemUnmap mmap) = asking
ask_refusals _ = error_number InvalidParam ∷ asking

-- those of a call, whatever its arguments and the session
abbrev pub refusals : ChannelCall → List ℕ
refusals Open = number SessionOpen ∷ error_number OutOfMemory ∷ []
refusals (Agree feature on) = number NoSession ∷ []
refusals (Ask what) = ask_refusals what
refusals (ToSend p) = number NoSession ∷ number NoRoom ∷ []
refusals (Missing p) = []
refusals (Receive bytes fds) = number NoSession ∷ number TooManyBytes ∷ error_number InvalidParam ∷ error_number OutOfMemory ∷ []
refusals Take = number NoSession ∷ number NothingAsked ∷ number NotYet ∷ error_number InvalidMessage ∷ error_number FrontendInternalError ∷ error_number OutOfMemory ∷ socket_retry ∷ socket_broken ∷ []
refusals (Unclaimed p) = number NoSession ∷ []
refusals Close = []

-- ---- what a refusal leaves

-- All that the contracts see is as before.
abbrev pub IsAlike : Channel → Channel → Type 0
IsAlike old new = view new ≡ view old

-- to take is refused, and nothing was read
abbrev pub is_early : ℕ → Bool
is_early n = n == number NoSession || (n == number NothingAsked || n == number NotYet)

-- what that leaves: the session as it was; or nothing is asked any more, and what is remembered is as before
abbrev pub LeavesTaken : (early : Bool) → Option Channel → Option Channel → Type 0
LeavesTaken true old new = new ≡ old
LeavesTaken false old new = AtBoth Settles old new

-- what a refused ask leaves, whose arguments make no call or that is not asked: the session as it was; or what is to be sent and remembered, and what is asked
abbrev pub LeavesAsked : (invalid : Bool) → Option Channel → Option Channel → Type 0
LeavesAsked true old new = new ≡ old
LeavesAsked false old new = AtBoth Stays old new

-- What a refusal of this number leaves: the session as it was, but for an ask, and an answer that was refused.
abbrev pub Leaves : ChannelCall → ℕ → Option Channel → Option Channel → Type 0
Leaves (Ask what) n old new = LeavesAsked (n == error_number InvalidParam) old new
Leaves (ToSend p) n old new = AtBoth IsAlike old new
Leaves (Receive bytes fds) n old new = AtBoth IsAlike old new
Leaves Take n old new = LeavesTaken (is_early n) old new
Leaves call n old new = new ≡ old

-- ---- soundness

-- Nothing broke the session's end of the connection, if there is a session.
abbrev pub IsSound : Option Channel → Type 0
IsSound None = ⊤
IsSound (Some s) = (endpoint_of s).broken ≡ None

-- after the other a session may be broken: memory was refused to its link
abbrev pub is_harmless : ℕ → Bool
is_harmless n = not (n == socket_retry)

-- ---- one call

-- A call of a program, whatever the program called before: it does what its contract says, answers 0 or one of its refusals, leaves the session so where it refuses, and breaks none where its answer is harmless.
pub record IsCalled (call : ChannelCall) (answer : ProgramAnswer) (old new : Option Channel) : Type 0 where
  pub does : Does call answer old new
  pub named : is_named (refusals call) answer.number ≡ true
  pub leaves : answer.number ≢ 0 → Leaves call answer.number old new
  pub sound : is_harmless answer.number ≡ true → IsSound old → IsSound new
