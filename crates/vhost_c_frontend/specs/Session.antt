-- What the calls of a session do.
use Rattle.std.specs.Prelude.{◌≡◌, ◌<◌, ◌≤◌, ℕ, ℤ, Bool, true, false, ◌||◌, ◌==◌, List, [], ◌++◌, length, Contains, Option, Some, None, Result, Ok, Err, ⊤, is_some}
use Rattle.vhost_message.specs.declared.error.Error as declared
use Rattle.vhost_message.specs.declared.error.Error.TheVariants.{OutOfMemory, SocketRetry, SocketBroken, InvalidMessage, InvalidParam}
use Rattle.vhost_message.specs.declared.cause.IoCause.TheVariants.{Raw}
use Rattle.vhost_message.specs.declared.errno.TheConstants.{ENOMEM}
use Rattle.vhost_message.specs.declared.heard_req.HeardReq.{HeardReq}
use Rattle.vhost_message.specs.HeardReq.{request_number}
use Rattle.vhost_message.specs.Header.{header_of}
use Rattle.vhost_message.specs.MsgHeader.{fields_of}
use Rattle.vhost_protocol.specs.Ask.{ask, Sends, Refuses}
use Rattle.vhost_protocol.specs.declared.asked.Awaited.{Awaited}
use Rattle.vhost_protocol.specs.declared.asked.Awaited.TheVariants.{Nobody}
use Rattle.vhost_protocol.specs.declared.profile.Profile.{Profile}
use Rattle.vhost_protocol.specs.declared.profile.Profile.TheVariants.{Standard}
use Rattle.vhost_protocol.specs.Error.{seen}
use Rattle.vhost_protocol.specs.FrontendCall.{FrontendCall, SetHdrFlags, Frontend, new_frontend}
use Rattle.vhost_protocol.specs.Stream.{Cell, first_handles, has_some}
use Rattle.vhost_protocol.specs.Written.{Written, written_cells, head_of}
use Rattle.vhost_link.specs.Ends.{Ends}
use Rattle.vhost_link.specs.declared.plain.PlainHandle.{PlainHandle}
use Rattle.vhost_connection.specs.Memory.{stream}
use Rattle.vhost_connection.specs.Talk.{State}
use Rattle.vhost_frontend_core.specs.Awaiting.{MayAwait}
use Rattle.vhost_frontend_core.specs.Frontend.{endpoint_of, session_of, awaits}
use Rattle.vhost_frontend_core.specs.Kept.{IsKeptFor}
use Rattle.vhost_frontend_core.specs.Values.{call_of, answer_of}
use Rattle.vhost_frontend_core.specs.Halves.{makes_room}
use Rattle.vhost_frontend_core.specs.ValueHalves.{IsProper, TakesResult}
use Rattle.vhost_frontend_core.specs.declared.asked.Sent.{Sent}
use Rattle.vhost_frontend_core.specs.declared.internal.FrontendInternal.{FrontendInternal}
use Rattle.vhost_frontend_core.specs.declared.values.answer.FrontendAnswer.{FrontendAnswer}
use Rattle.vhost_frontend_core.specs.declared.values.answer.FrontendAnswer.TheVariants.{Done, Failed}
use Rattle.vhost_c_common.specs.ByNumber.{By}
use Rattle.vhost_c_common.specs.Carrying.{emptied}
use Rattle.vhost_c_common.specs.Held.{Claimed, Gets, HandsLoose, HoldsNone, Released, claimable}
use Rattle.vhost_c_common.specs.declared.held.Held.{Held}
use Rattle.vhost_c_frontend.specs.Incoming.{missing_from, is_sized}
use Rattle.vhost_c_frontend.specs.Names.{Names}
use Rattle.vhost_c_common.specs.Number.{inactive_in}
use Rattle.vhost_c_common.specs.View as session
use Rattle.vhost_c_common.specs.View.{View, IsEmpty, Lasts, StaysSound, bare, view_of}
use Rattle.vhost_c_common.specs.declared.incoming.Incoming.{Incoming}
use Rattle.vhost_c_common.specs.declared.refusal.Refusal.{Refusal}
use Rattle.vhost_c_common.specs.declared.refusal.Refusal.TheVariants.{NotTaken, Protocol, NothingAsked, NotYet, OtherAnswer}
use Rattle.vhost_c_frontend.specs.declared.session.Asked.{Asked as CallAsked}
use Rattle.vhost_c_frontend.specs.declared.session.Session.{Session}

-- what is to be sent: bytes, each with the descriptors that go with it
abbrev pub queued : Session → List (Cell PlainHandle)
queued s = s.outgoing.link.pending ++ (endpoint_of s.frontend).link.sent

-- what came, and was not taken
abbrev pub arrived : Session → List (Cell PlainHandle)
arrived s = stream (endpoint_of s.frontend)

-- what is remembered of the device
abbrev pub remembers : Session → Frontend
remembers s = session_of s.frontend

-- whether nothing came of the answer: what comes now comes with its first byte
abbrev pub is_first : Session → Bool
is_first s = s.incoming.count == 0

-- it, as the contracts of all sessions see one: with what is remembered, the call whose answer is to be decoded, the answer that was decoded last, and which feature the last ask lacked
abbrev pub view : Session → View (Frontend × Option CallAsked × FrontendAnswer × ℕ)
view s = view_of s.outgoing (endpoint_of s.frontend) s.incoming (remembers s, s.asked, s.answer, s.inactive)

-- how many bytes can be told to be missing of an answer: none where nothing is asked
abbrev pub missing_for : Profile → Option CallAsked → Incoming → ℕ
missing_for profile None i = 0
missing_for profile (Some asked) i = missing_from profile (call_of asked.call) asked.sent.awaited i

-- the same of a session
abbrev pub missing_of : Session → ℕ
missing_of s = missing_for (remembers s).profile s.asked s.incoming

-- the same where there may be none
abbrev pub missing_at : Option Session → ℕ
missing_at None = 0
missing_at (Some s) = missing_of s

-- whether what came announces an answer of the size that the call's has
abbrev pub is_sized_of : Profile → CallAsked → Incoming → Bool
is_sized_of profile asked i = is_sized profile (call_of asked.call) asked.sent.awaited (header_of i.head).size

-- the same of the last call that was asked, where there is a session
abbrev pub inactive_at : Option Session → ℕ
inactive_at None = 0
inactive_at (Some s) = s.inactive

-- A call that was sent is kept until its answer is taken, with the header of its request and with what is awaited. What it is made of has the sizes of its types. Of its answer nothing came yet, and nothing that came before waits.
pub record Keeps (call : FrontendCall PlainHandle) (w : Written HeardReq PlainHandle) (s : Session) : Type 0 where
  pub kept : CallAsked
  pub is : s.asked ≡ Some kept
  pub same : call_of kept.call ≡ call
  pub proper : IsProper call
  pub header : fields_of kept.sent.request ≡ head_of request_number w
  pub awaited : kept.sent.awaited ≡ awaits s.frontend
  pub nothing_came : s.incoming.count ≡ 0
  pub nothing_waits : arrived s ≡ []

-- A call was asked: its request is behind what was to be sent before, what is remembered and awaited is the definitions', and it is the call that is kept; or nothing is sent for it, and it was done.
pub data Asks (call : FrontendCall PlainHandle) (old new : Session) : Type 0 where
  sent : (w : Written HeardReq PlainHandle) → ask (remembers old) call ≡ Sends w (awaits new.frontend) (remembers new)
      → queued new ≡ queued old ++ written_cells request_number w → Keeps call w new → new.answer ≡ old.answer → StaysSound (endpoint_of old.frontend) (endpoint_of new.frontend) → Asks call old new
  at_once : (flags : ℕ) → call ≡ SetHdrFlags flags → remembers new ≡ record (remembers old) { header_flags = flags } → queued new ≡ queued old → new.asked ≡ old.asked → new.incoming ≡ old.incoming → new.answer ≡ old.answer
      → bare (endpoint_of new.frontend) ≡ bare (endpoint_of old.frontend) → Asks call old new

-- Why a call was not asked: its own tests say so; or memory was refused.
pub data Fails (call : FrontendCall PlainHandle) (s : Session) : declared.Error → Type 0 where
  refused : {e : declared.Error} → ask (remembers s) call ≡ Refuses (seen e) → Fails call s e
  -- for what still waits to be sent, behind which the request goes
  no_queue : has_some (queued s) ≡ true → Fails call s OutOfMemory
  -- for the list of handles, which the descriptors of an answer took away
  no_list : (endpoint_of s.frontend).list ≡ false → Fails call s OutOfMemory
  -- for the answer of a call that makes room for it
  no_answer : makes_room (remembers s) call ≡ true → Fails call s OutOfMemory
  -- for the request
  no_request : {w : Written HeardReq PlainHandle} {awaited : Awaited} {f : Frontend} → ask (remembers s) call ≡ Sends w awaited f → Fails call s (SocketRetry (Raw ENOMEM))
  -- for a part of an earlier message, which broke the session
  was_broken : (endpoint_of s.frontend).broken ≡ Some (Raw ENOMEM) → Fails call s (SocketBroken (Raw ENOMEM))

-- What is remembered, what is asked, what came of its answer and the answer that was taken last are as before.
pub record Rests (old new : Session) : Type 0 where
  pub memory : remembers new ≡ remembers old
  pub asked : new.asked ≡ old.asked
  pub incoming : new.incoming ≡ old.incoming
  pub answer : new.answer ≡ old.answer

-- A call was not asked: nothing more is to be sent, and the rest is as before.
pub record Stays (old new : Session) : Type 0 where
  pub queue : queued new ≡ queued old
  pub rest : Rests old new

-- Nothing changed but which feature was not active.
pub record KeepsAll (old new : Session) : Type 0 where
  pub frontend : new.frontend ≡ old.frontend
  pub outgoing : new.outgoing ≡ old.outgoing
  pub asked : new.asked ≡ old.asked
  pub incoming : new.incoming ≡ old.incoming
  pub answer : new.answer ≡ old.answer
  pub held : new.held ≡ old.held

-- Why a session refused to ask: the answer before is still to be taken, and nothing changed; or the call failed, and the session is broken only if that is why.
pub data Refused (call : FrontendCall PlainHandle) (old new : Session) : Refusal → Type 0 where
  busy : is_some old.asked ≡ true → KeepsAll old new → Refused call old new NotTaken
  fails : {e : declared.Error} → Fails call old e → Lasts e (endpoint_of old.frontend) (endpoint_of new.frontend) → Refused call old new (Protocol e)

-- What becomes of a call.
abbrev pub Becomes : FrontendCall PlainHandle → Session → Result ⊤ Refusal → Session → Type 0
Becomes call s (Ok done) s' = Asks call s s'
Becomes call s (Err r) s' = Refused call s s' r × Stays s s'

-- Of the last ask it is kept which feature was not active, where it was refused for that; else 0.
abbrev pub Notes : Result ⊤ Refusal → Session → Type 0
Notes outcome s = s.inactive ≡ inactive_in outcome

-- what becomes of the descriptors of the answer before, where a call was asked before or not, and is after: once one is, nobody will claim them; else the same are held
abbrev pub Drops : Bool → Bool → Held → Held → Type 0
Drops false true old new = Released old new
Drops was is old new = new ≡ old

-- what a session answers to an ask
abbrev pub Asking : FrontendCall PlainHandle → Session → Result ⊤ Refusal → Session → Type 0
Asking call s outcome s' = Becomes call s outcome s' × Notes outcome s' × Drops (is_some s.asked) (is_some s'.asked) s.held s'.held

-- an ask of C
abbrev pub AsksBy : FrontendCall PlainHandle → Option Session → ℕ → Option Session → Type 0
AsksBy call = By (Asking call)

-- what it answers to an ask of whose arguments no call can be made
abbrev pub Rejecting : declared.Error → Session → Result ⊤ Refusal → Session → Type 0
Rejecting e s outcome s' = (outcome ≡ Err (Protocol e)) × KeepsAll s s' × Notes outcome s'

-- the same of C
abbrev pub RejectsBy : declared.Error → Option Session → ℕ → Option Session → Type 0
RejectsBy e = By (Rejecting e)

-- The same of a call that gives a descriptor: where there is none, the call is refused as one with an argument that is not allowed.
abbrev pub AsksWith : Option PlainHandle → (PlainHandle → FrontendCall PlainHandle) → Option Session → ℕ → Option Session → Type 0
AsksWith (Some h) call old n new = AsksBy (call h) old n new
AsksWith None call old n new = RejectsBy InvalidParam old n new

-- the flags of a request that may be chosen: none, or that which asks for an acknowledgement
abbrev pub is_header_flag : ℕ → Bool
is_header_flag n = n == 0 || n == 8

-- An ask whose argument is allowed; else the call is refused as one with an argument that is not.
abbrev pub AsksAllowed : Bool → FrontendCall PlainHandle → Option Session → ℕ → Option Session → Type 0
AsksAllowed true call old n new = AsksBy call old n new
AsksAllowed false call old n new = RejectsBy InvalidParam old n new

-- An ask with an argument that a number names: where it names none, the call is refused as one with an argument that is not allowed.
abbrev pub AsksNamed : {A : Type 0} → Result A ⊤ → (A → Option Session → ℕ → Option Session → Type 0) → Option Session → ℕ → Option Session → Type 0
AsksNamed (Ok a) asks old n new = asks a old n new
AsksNamed (Err unnamed) asks old n new = RejectsBy InvalidParam old n new

-- The answer of a call is taken at this end, of what its half that asks sent, and nothing is awaited any more.
pub record TakesAt (call : FrontendCall PlainHandle) (sent : Sent) (end : State Ends PlainHandle) (f : Frontend) (answer : FrontendAnswer) (new : FrontendInternal Ends PlainHandle) : Type 0 where
  pub taken : MayAwait call sent.awaited → IsKeptFor call sent.awaited sent.kept → TakesResult call sent.awaited (fields_of sent.request) end f (answer_of answer) (endpoint_of new) (session_of new)
  pub quiet : awaits new ≡ Nobody

-- The answer of the call that was asked was taken, of what waits at this end: this is the answer, by what was awaited and the header of the request, and nothing is asked or awaited any more.
pub record TakesOne (asked : CallAsked) (end : State Ends PlainHandle) (old : Session) (answer : FrontendAnswer) (new : Session) : Type 0 where
  pub was : old.asked ≡ Some asked
  pub taken : TakesResult (call_of asked.call) asked.sent.awaited (fields_of asked.sent.request) end (remembers old) (answer_of answer) (endpoint_of new.frontend) (remembers new)
  pub now : new.asked ≡ None
  pub quiet : awaits new.frontend ≡ Nobody
  pub outgoing : new.outgoing ≡ old.outgoing
  pub inactive : new.inactive ≡ old.inactive

-- What taking answers: the answer is kept, is no error, and names no descriptor but the one that came with its first byte; or it is this error; or it announces another size than the call's answer has, and what is taken is the answer of a device that sent nothing; or nothing was asked, or bytes of the answer are missing, and nothing changed.
pub data Takes (old new : Session) : Result ⊤ Refusal → Type 0 where
  kept : (asked : CallAsked) → missing_of old ≡ 0 → is_sized_of (remembers old).profile asked old.incoming ≡ true → TakesOne asked (endpoint_of old.frontend) old new.answer new → Names (first_handles (arrived old)) (answer_of new.answer) → ((e : declared.Error) → ¬ (new.answer ≡ Failed e)) → Takes old new (Ok tt)
  failed : (asked : CallAsked) {e : declared.Error} → missing_of old ≡ 0 → is_sized_of (remembers old).profile asked old.incoming ≡ true → TakesOne asked (endpoint_of old.frontend) old (Failed e) new → new.answer ≡ Done → Takes old new (Err (Protocol e))
  other_size : (asked : CallAsked) (nothing : FrontendAnswer) → missing_of old ≡ 0 → is_sized_of (remembers old).profile asked old.incoming ≡ false → TakesOne asked (emptied (endpoint_of old.frontend)) old nothing new → new.answer ≡ Done → Takes old new (Err (Protocol InvalidMessage))
  nothing_asked : old.asked ≡ None → new ≡ old → Takes old new (Err NothingAsked)
  not_yet : 0 < missing_of old → new ≡ old → Takes old new (Err NotYet)

-- what becomes of the descriptors that came with an answer: they may be claimed once it was decoded; where it was refused, nobody will claim them
abbrev pub TakesHeld : Held → Result ⊤ Refusal → Held → Type 0
TakesHeld old (Ok done) new = new ≡ old
TakesHeld old (Err NothingAsked) new = new ≡ old
TakesHeld old (Err NotYet) new = new ≡ old
TakesHeld old (Err r) new = Released old new

-- what a session answers to bytes of its answer: no more may come than are missing
abbrev pub Receiving : List ℕ → List ℤ → Session → Result ⊤ Refusal → Session → Type 0
Receiving bytes fds s outcome s' = session.Receiving (missing_of s) bytes fds (view s) outcome (view s')

-- what becomes of the descriptors that come with them
abbrev pub Getting : List ℤ → Session → Result ⊤ Refusal → Session → Type 0
Getting fds s outcome s' = Gets fds (is_first s) s.held outcome s'.held

-- what it answers where it is to hand out what is to be sent
abbrev pub Sending : List ℕ → List ℤ → ℕ × ℕ → Session → Result ⊤ Refusal → Session → Type 0
Sending bytes fds count s outcome s' = session.Sending bytes fds count (view s) outcome (view s')

-- An ask of C whose arguments may be such that no call can be made of them: then it is refused. Else it is asked; or memory was refused before.
pub data AsksUnless (bad : Type 0) (call : FrontendCall PlainHandle) (old : Option Session) (n : ℕ) (new : Option Session) : Type 0 where
  asks : AsksBy call old n new → AsksUnless bad call old n new
  refuses : bad → RejectsBy InvalidParam old n new → AsksUnless bad call old n new
  wants : RejectsBy OutOfMemory old n new → AsksUnless bad call old n new

-- A new session: it is sound and empty, nothing is asked, no ask lacked a feature, no descriptor is held. It has the profile Standard, since a program in C speaks with real backends.
pub record IsNew (max_queue_num : ℕ) (s : Session) : Type 0 where
  pub empty : IsEmpty (view s)
  pub memory : remembers s ≡ record (new_frontend max_queue_num) { profile = Standard }
  pub asked : s.asked ≡ None
  pub inactive : s.inactive ≡ 0
  pub held : HoldsNone s.held

-- A session has another profile, and the rest is as before.
pub record Changes (profile : Profile) (old new : Session) : Type 0 where
  pub memory : remembers new ≡ record (remembers old) { profile = profile }
  pub queue : queued new ≡ queued old
  pub end : endpoint_of new.frontend ≡ endpoint_of old.frontend
  pub asked : new.asked ≡ old.asked
  pub incoming : new.incoming ≡ old.incoming
  pub answer : new.answer ≡ old.answer
  pub inactive : new.inactive ≡ old.inactive
  pub held : new.held ≡ old.held

-- what becomes of a choice of profile
abbrev pub Choosing : Profile → Session → Result ⊤ Refusal → Session → Type 0
Choosing profile s (Ok done) s' = Changes profile s s'
Choosing profile s (Err r) s' = ⊥

-- the same of C: what names no profile is refused, and nothing changed
abbrev pub ChoosesBy : Option Profile → Option Session → ℕ → Option Session → Type 0
ChoosesBy (Some profile) old n new = By (Choosing profile) old n new
ChoosesBy None old n new = (n ≡ 1) × (new ≡ old)

-- A session was opened; or there was one; or memory was refused.
pub data Opens (max_queue_num : ℕ) : Option Session → ℕ → Option Session → Type 0 where
  opened : {s : Session} → IsNew max_queue_num s → Opens max_queue_num None 0 (Some s)
  was_open : {s : Session} → Opens max_queue_num (Some s) 102 (Some s)
  no_room : Opens max_queue_num None 24 None

-- what it answers where its answer is read: so it was read, and nothing changed
abbrev pub Reading : (FrontendAnswer → Result ⊤ Refusal → Type 0) → Session → Result ⊤ Refusal → Session → Type 0
Reading reads s outcome s' = reads s.answer outcome × (s' ≡ s)

-- ---- descriptors

-- what a session answers to a claim of a descriptor: it came with the answer that was decoded last, and is the caller's now; or an answer is still to be decoded, or it has none of that number that was not claimed
abbrev pub Claiming : ℤ → Session → Result ⊤ Refusal → Session → Type 0
Claiming fd s (Ok done) s' = (is_some s.asked ≡ false) × Claimed fd s.held s'.held × (s' ≡ record s { held = s'.held })
Claiming fd s (Err OtherAnswer) s' = (is_some s.asked ≡ false → ¬ (Contains (claimable s.held) fd)) × (s' ≡ s)
Claiming fd s _ s' = ⊥

-- what a call of C does that hands out descriptors that nobody will claim
abbrev pub LettingGo : List ℤ → ℕ → List ℤ → Session → Result ⊤ Refusal → Session → Type 0
LettingGo before count after s (Ok done) s' = HandsLoose s.held before count after s'.held × (s' ≡ record s { held = s'.held })
LettingGo before count after s (Err r) s' = ⊥

-- what a call of C does after which nobody will claim what came
abbrev pub Abandoning : Session → Result ⊤ Refusal → Session → Type 0
Abandoning s (Ok done) s' = Released s.held s'.held × (s' ≡ record s { held = s'.held })
Abandoning s (Err r) s' = ⊥
