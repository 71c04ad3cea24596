-- Both sides joined over the example device, step by step.
use Rattle.std.specs.Prelude.{◌≡◌, ℕ, List, [], ◌∷◌, map, true, Some, None, Ok}
use Rattle.vhost_protocol.specs.FrontendCall.{Frontend, Nothing, Number, new_frontend}
use Rattle.vhost_protocol.specs.Session.{Session, fresh}
use Rattle.vhost_dummy_backend.specs.declared.dummy.DummyBackendReqHandler.{DummyBackendReqHandler}
use Rattle.vhost_frontend_core.specs.Values.{answer_of}
use Rattle.vhost_frontend_core.specs.declared.values.answer.FrontendAnswer.{FrontendAnswer}
use Rattle.vhost_link.specs.Ends.{Ends}
use Rattle.vhost_link.specs.declared.plain.PlainHandle.{PlainHandle}
use Rattle.vhost_joined.specs.Joined.{View, IsReady}
use Rattle.vhost_joined.specs.declared.halt.Stop.TheVariants.{Table}

-- the example device
abbrev pub Device : Type 0
Device = DummyBackendReqHandler Ends PlainHandle

-- both sides once the features were asked for
abbrev pub asking : Frontend
asking = record (new_frontend 2) { offered = 0x40000003 }

abbrev pub serving : Session
serving = record fresh { offered = 0x40000003 }

-- the request for an owner: its code, no flag but the version's, and no body
abbrev pub owner_request : List ℕ
owner_request = 3 ∷ 0 ∷ 0 ∷ 0 ∷ 1 ∷ 0 ∷ 0 ∷ 0 ∷ 0 ∷ 0 ∷ 0 ∷ 0 ∷ []

-- what is to be seen of one step: the request that was sent and that nothing was replied
abbrev pub asked_owner : View Device → Type 0
asked_owner now = (now.request ≡ record { bytes = owner_request; handles = [] }) × (now.reply ≡ record { bytes = []; handles = [] })

-- The features were read, and the device has an owner: these answers, these bytes, both sides, and the device that was given.
pub record Claims (device : Device) (answers : List FrontendAnswer) (now : View Device) : Type 0 where
  pub answered : map answer_of answers ≡ Ok (Number 0x40000003) ∷ Ok Nothing ∷ []
  pub asked : asked_owner now
  pub frontend : now.frontend ≡ asking
  pub session : now.session ≡ serving
  pub owned : now.device ≡ record device { owned = true }
  pub going : now.stopped ≡ None
  pub ready : IsReady true now

-- Claimed once more: the frontend is told that it succeeded, nothing came back, and the run has stopped there.
pub record RefusesAgain (last : FrontendAnswer) (now : View Device) : Type 0 where
  pub answered : answer_of last ≡ Ok Nothing
  pub asked : asked_owner now
  pub stopped : now.stopped ≡ Some Table
