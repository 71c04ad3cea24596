-- A frontend's session and a backend's, joined: what the one hands out the other receives, in any pieces, and a device answers.
use Rattle.std.specs.Prelude.{◌≡◌, ◌⊎◌, ℕ, All, Bool, true, false, List, [], ◌∷◌, ◌++◌, map, Some, None, Result, Ok, Err, ⊤, is_some}
use Rattle.vhost_message.specs.Bits.{has_bit}
use Rattle.vhost_message.specs.declared.heard_req.HeardReq.{HeardReq}
use Rattle.vhost_protocol.specs.Agreement.{Negotiates}
use Rattle.vhost_protocol.specs.declared.profile.Profile.TheVariants.{Standard}
use Rattle.vhost_protocol.specs.DeviceCall.{Call, Answer}
use Rattle.vhost_protocol.specs.Error.{Error, seen}
use Rattle.vhost_protocol.specs.Features.{PROTOCOL_FEATURES}
use Rattle.vhost_protocol.specs.FrontendCall.{FrontendCall, Frontend, GetFeatures, SetMemTable, SetLogBase, SetLogFd, SetVringCall, SetVringKick, SetVringErr, SetBackendRequestFd, SetInflightFd, AddMemRegion, SetDeviceStateFd, SetHdrFlags, Value, Nothing}
use Rattle.vhost_protocol.specs.Ask.{Sends, ask, given_handle, handles_in}
use Rattle.vhost_protocol.specs.declared.asked.Awaited.{Awaited}
use Rattle.vhost_protocol.specs.Handler.{Meets}
use Rattle.vhost_protocol.specs.Joined.{AgreeOn, Shown, JoinedStep, JoinedRun, read_as}
use Rattle.vhost_protocol.specs.Step.{Outcome}
use Rattle.vhost_protocol.specs.Written.{Written}
use Rattle.vhost_link.specs.declared.plain.PlainHandle.{PlainHandle}
use Rattle.vhost_backend_req_handler.specs.Core as core
use Rattle.vhost_frontend_core.specs.Frontend as frontend
use Rattle.vhost_frontend_core.specs.Values.{answer_of, call_of}
use Rattle.vhost_frontend_core.specs.declared.values.call.FrontendCall as code
use Rattle.vhost_c_common.specs.declared.refusal.Refusal.{Refusal}
use Rattle.vhost_c_common.specs.declared.refusal.Refusal.TheVariants.{Protocol}
use Rattle.vhost_c_backend.specs.Served as served
use Rattle.vhost_c_backend.specs.Serving.{Channel, Display}
use Rattle.vhost_c_backend.specs.declared.replies.Reply.{Reply}
use Rattle.vhost_c_backend.specs.declared.replies.Reply.TheVariants as reply
use Rattle.vhost_c_backend.specs.declared.served.Served.{Served}
use Rattle.vhost_c_joined.specs.Device.{IsSized, is_want, opens, replies}
use Rattle.vhost_c_frontend.specs.Session as session
use Rattle.vhost_c_joined.specs.Wire.{IsFd}
use Rattle.vhost_c_frontend.specs.declared.session.Session.{Session}
use Rattle.vhost_c_joined.specs.declared.wire.Halt.{Halt}
use Rattle.vhost_c_joined.specs.declared.wire.Halt.TheVariants as halt

-- ---- both sessions

-- Both are in step, and keep to the specification: they agree, no call is open, nothing is to be sent, nothing waits, and nothing broke them. Requests are not sent as replies. The bit is that of all features that the device offers.
pub record AreInStep (bit : Bool) (f : Session) (b : Served) : Type 0 where
  pub agree : AgreeOn (session.remembers f) (served.remembers b)
  pub negotiates : Negotiates bit (session.remembers f)
  pub plain : has_bit (session.remembers f).header_flags 2 ≡ false
  pub standard : (session.remembers f).profile ≡ Standard
  pub goes_on : (served.remembers b).failed ≡ None
  pub unasked : f.asked ≡ None
  pub idle : served.has_call b ≡ false
  pub no_request : (session.queued f ≡ []) × (served.arrived b ≡ []) × (b.incoming.count ≡ 0)
  pub no_reply : served.queued b ≡ []
  pub sound : ((frontend.endpoint_of f.frontend).broken ≡ None) × ((core.endpoint_of b.core).broken ≡ None) × ((core.endpoint_of b.core).link.script ≡ [])

-- if a reply offers features, they have the bit, or have it not
abbrev pub Offers : Bool → FrontendCall PlainHandle → Reply → Type 0
Offers bit GetFeatures (reply.Number n) = has_bit n PROTOCOL_FEATURES ≡ bit
Offers bit _ _ = ⊤

-- the handles that a call gives
abbrev pub handles_of : FrontendCall PlainHandle → List PlainHandle
handles_of (SetMemTable infos) = handles_in infos
handles_of (SetLogBase base (Some log)) = given_handle log.handle
handles_of (SetLogFd h) = h ∷ []
handles_of (SetVringCall index h) = given_handle h
handles_of (SetVringKick index h) = given_handle h
handles_of (SetVringErr index h) = given_handle h
handles_of (SetBackendRequestFd h) = h ∷ []
handles_of (SetInflightFd area h) = h ∷ []
handles_of (AddMemRegion info) = given_handle info.handle
handles_of (SetDeviceStateFd transfer h) = h ∷ []
handles_of _ = []

-- they are descriptors, as all are that C gives
abbrev pub HasFds : FrontendCall PlainHandle → Type 0
HasFds call = All IsFd (handles_of call)

-- from a call on, requests are not sent as replies
abbrev pub IsPlain : FrontendCall PlainHandle → Type 0
IsPlain (SetHdrFlags flags) = has_bit flags 2 ≡ false
IsPlain _ = ⊤

-- what a call was answered that is no error: it is kept, but of the one call without a message
abbrev pub answer_to : FrontendCall PlainHandle → Session → Result (Value PlainHandle) Error
answer_to (SetHdrFlags flags) f = Ok Nothing
answer_to _ f = answer_of f.answer

-- what a call was answered
abbrev pub result_of : FrontendCall PlainHandle → Session → Result ⊤ Refusal → Result (Value PlainHandle) Error → Type 0
result_of call f (Ok done) result = result ≡ answer_to call f
result_of call f (Err (Protocol e)) result = result ≡ Err (seen e)
result_of call f (Err r) result = ⊥

-- The request of a call goes out, and this becomes of it by its row, whose call the device answers by this reply.
pub record Meeting (call : FrontendCall PlainHandle) (r : Reply) (f : Session) (b : Served) (w : Written HeardReq PlainHandle) (o : Outcome PlainHandle) : Type 0 where
  pub awaited : Awaited
  pub after : Frontend
  pub asked : ask (session.remembers f) call ≡ Sends w awaited after
  pub meets : Meets (replies r) (opens r) (opens r) (served.remembers b) tt (read_as w) o tt

-- What becomes of a call that a device answers so. It is a step of the protocol, of its own table, with the descriptors that go with its messages, and both are in step again; or memory was refused, or the backend's session has ended by its row. No answer is waited for in vain.
abbrev pub Joins : Bool → FrontendCall PlainHandle → Reply → Session → Served → Result (Result ⊤ Refusal) Halt → Session → Served → Type 0
Joins bit call r f b (Ok outcome) f' b' =
    (shown : Shown PlainHandle) × JoinedStep (replies r) (opens r) (opens r) (session.remembers f) (served.remembers b) tt call shown (session.remembers f') (served.remembers b') tt
    × result_of call f' outcome shown.result × (shown.last ≡ false) × AreInStep bit f' b'
Joins bit call r f b (Err (halt.WantsMemory why)) f' b' = is_want why ≡ true
Joins bit call r f b (Err halt.Silent) f' b' = ⊥
Joins bit call r f b (Err halt.Ended) f' b' = (w : Written HeardReq PlainHandle) × (o : Outcome PlainHandle) × Meeting call r f b w o × (served.remembers b' ≡ o.session) × (is_some (served.remembers b').failed ≡ true)

-- ---- many calls

-- the calls, each with the reply at its place
abbrev pub steps_of : List code.FrontendCall → List Reply → List (FrontendCall PlainHandle × Reply)
steps_of (c ∷ cs) (r ∷ rs) = (call_of c, r) ∷ steps_of cs rs
steps_of _ _ = []

-- Requests are not sent as replies, and the handles of each call are descriptors. No reply offers other features than the bit says.
abbrev pub AreAllowed : Bool → List (FrontendCall PlainHandle × Reply) → Type 0
AreAllowed bit [] = ⊤
AreAllowed bit (step ∷ steps) = IsPlain step.0 × HasFds step.0 × IsSized step.1 × Offers bit step.0 step.1 × AreAllowed bit steps

-- calls one after another, each of which is done
abbrev pub AllJoin : Bool → List (FrontendCall PlainHandle × Reply) → Session → Served → Session → Served → Type 0
AllJoin bit [] f b f' b' = (f' ≡ f) × (b' ≡ b)
AllJoin bit (step ∷ steps) f b f' b' = (g : Session) × (t : Served) × (outcome : Result ⊤ Refusal) × Joins bit step.0 step.1 f b (Ok outcome) g t × AllJoin bit steps g t f' b'

-- a device that answers each call by some reply
abbrev pub any_reply : ⊤ → (c : Call PlainHandle Channel Display) → Answer c → ⊤ → Type 0
any_reply d c a d' = (r : Reply) × replies r d c a d'

-- the same of a channel
abbrev pub any_opens : {C : Type 0} → PlainHandle → Result C Error → Type 0
any_opens h opened = (r : Reply) × opens r h opened

-- They are a joined run of the protocol, in lockstep, with these answers; and both are in step again.
pub record InLockstep (bit : Bool) (steps : List (FrontendCall PlainHandle × Reply)) (f : Session) (b : Served) (f' : Session) (b' : Served) : Type 0 where
  pub each : AllJoin bit steps f b f' b'
  pub answers : List (FrontendCall PlainHandle × Result (Value PlainHandle) Error)
  pub of_calls : map (λ a. a.0) answers ≡ map (λ s. s.0) steps
  pub run : JoinedRun any_reply any_opens any_opens (session.remembers f) (served.remembers b) tt answers (session.remembers f') (served.remembers b') tt
  pub in_step : AreInStep bit f' b'

-- The calls before one that was not done.
pub record UpTo (bit : Bool) (steps : List (FrontendCall PlainHandle × Reply)) (f : Session) (b : Served) (h : Halt) (f' : Session) (b' : Served) : Type 0 where
  pub before : List (FrontendCall PlainHandle × Reply)
  pub step : FrontendCall PlainHandle × Reply
  pub later : List (FrontendCall PlainHandle × Reply)
  pub all : steps ≡ before ++ step ∷ later
  pub front : Session
  pub back : Served
  pub done : InLockstep bit before f b front back
  pub halts : Joins bit step.0 step.1 front back (Err h) f' b'

-- what becomes of calls that a device answers so
abbrev pub JoinsAll : Bool → List (FrontendCall PlainHandle × Reply) → Session → Served → Result ⊤ Halt → Session → Served → Type 0
JoinsAll bit steps f b (Ok done) f' b' = InLockstep bit steps f b f' b'
JoinsAll bit steps f b (Err h) f' b' = UpTo bit steps f b h f' b'

-- Two new sessions were joined, and these calls are in lockstep: each was done, and both are in step.
pub record JoinsNew (bit : Bool) (max_queue_num : ℕ) (steps : List (FrontendCall PlainHandle × Reply)) (f' : Session) (b' : Served) : Type 0 where
  pub front : Session
  pub back : Served
  pub fresh : session.IsNew max_queue_num front × served.IsNew back
  pub lockstep : InLockstep bit steps front back f' b'

-- memory was refused, where nothing else can be
abbrev pub NoMemory : Halt → Type 0
NoMemory (halt.WantsMemory why) = is_want why ≡ true
NoMemory h = ⊥

-- Two new sessions were joined, and the calls before one that was not done.
pub record HaltsNew (bit : Bool) (max_queue_num : ℕ) (steps : List (FrontendCall PlainHandle × Reply)) (h : Halt) : Type 0 where
  pub front : Session
  pub back : Served
  pub fresh : session.IsNew max_queue_num front × served.IsNew back
  pub last_front : Session
  pub last_back : Served
  pub halts : UpTo bit steps front back h last_front last_back

-- what becomes of new sessions, where both could be opened
abbrev pub OpensAndJoins : Bool → ℕ → List (FrontendCall PlainHandle × Reply) → Result (Session × Served) Halt → Type 0
OpensAndJoins bit max_queue_num steps (Ok s) = JoinsNew bit max_queue_num steps s.0 s.1
OpensAndJoins bit max_queue_num steps (Err h) = NoMemory h ⊎ HaltsNew bit max_queue_num steps h
