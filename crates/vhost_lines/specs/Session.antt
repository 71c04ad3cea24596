-- How a session is seen that answers lines.
use Rattle.std.specs.Prelude.{◌≡◌, ℕ, Bool, List, [], ◌∷◌, map, Option, None, Result, Ok}
use Rattle.std.specs.declared.alloc.Global.{Global}
use Rattle.vhost_message.specs.declared.cause.IoCause.{IoCause}
use Rattle.vhost_protocol.specs.declared.profile.Profile.{Profile}
use Rattle.vhost_lines.specs.Calls.{Call}
use Rattle.vhost_frontend_core.specs.declared.values.answer.FrontendAnswer.{FrontendAnswer}
use Rattle.vhost_dummy_backend.specs.Dummy.{DummyGives, fresh}
use Rattle.vhost_dummy_backend.specs.declared.dummy.DummyBackendReqHandler.{DummyBackendReqHandler}
use Rattle.vhost_link.specs.declared.handle.Kind.TheVariants.{NoSocket}
use Rattle.vhost_link.specs.Ends.{Ends}
use Rattle.vhost_link.specs.declared.plain.PlainHandle.{PlainHandle}
use Rattle.vhost_joined.specs.Joined as joined
use Rattle.vhost_joined.specs.Sides.{as_view, fresh_parts}
use Rattle.vhost_joined.specs.Text.{Text}
use Rattle.vhost_joined.specs.declared.halt.Halt.{Halt}
use Rattle.vhost_joined.specs.declared.halt.Stop.{Stop}
use Rattle.vhost_lines.specs.Shown.{AnswersCall, ShowsText, ShowsFrontOf}

-- the example device
abbrev pub Device : Type 0
Device = DummyBackendReqHandler Ends PlainHandle

-- both sides and the device, joined
abbrev pub View : Type 0
View = joined.View Device

-- the handles that the device has to give out, the last one first
abbrev pub spares : List PlainHandle
spares = map (λ n. record { id = n; kind = NoSocket }) (107 ∷ 106 ∷ 105 ∷ 104 ∷ 103 ∷ 102 ∷ 101 ∷ 100 ∷ [])

-- both sides with this profile
abbrev pub with_profile : Profile → View → View
with_profile profile v = record v { frontend = record v.frontend { profile = profile }; session = record v.session { profile = profile } }

-- a session as it begins: the device is new and has two queues; a message may take three retries, and no link is cut
abbrev pub IsFresh : Profile → View → Type 0
IsFresh profile now = (alloc : Global) × (now ≡ with_profile profile (as_view (fresh_parts (fresh alloc spares) 2 3 [] []) None))

-- a handle is copied as it is
abbrev pub copies : PlainHandle → Result PlainHandle IoCause → Type 0
copies handle result = result ≡ Ok handle

-- what a call does: a step of both sides
abbrev pub Steps : View → Call → Result FrontendAnswer Halt → View → Type 0
Steps = joined.Steps (DummyGives copies)

abbrev pub request_of : View → Text
request_of now = now.request

abbrev pub reply_of : View → Text
reply_of now = now.reply

abbrev pub stopped_of : View → Option Stop
stopped_of now = now.stopped

-- a call is answered and shown
abbrev pub Answers : View → Call → List ℕ → View → Type 0
Answers = AnswersCall Steps request_of reply_of stopped_of

-- what is written shows the lines of a text, answered one step of the code after another by a session as it begins, up to the first one that is no call
abbrev pub AnswersLines : (comments : Bool) → Profile → List ℕ → Option (List ℕ) → Option (List ℕ) → Type 0
AnswersLines comments profile = ShowsText Steps request_of reply_of stopped_of comments (IsFresh profile)

-- what is written is a front of what the lines of a text show, answered by a session as it begins
abbrev pub AnswersFront : (comments : Bool) → Profile → List ℕ → Option (List ℕ) → Option (List ℕ) → Type 0
AnswersFront comments profile = ShowsFrontOf Steps request_of reply_of stopped_of comments (IsFresh profile)
