-- One call alone asks for a state.
use Rattle.std.proofs.Common.{◌≡◌, ℕ, Bool, true, false, List, [], ◌∷◌, Option, Some, None, Result, Ok, Err, subst, ap}
use Rattle.std.specs.Prelude.{⊤, cond}
use Rattle.vhost_message.specs.declared.heard_req.HeardReq.{HeardReq}
use Rattle.vhost_message.specs.declared.heard_req.HeardReq.TheVariants.{ADD_MEM_REG, SET_DEVICE_STATE_FD, SET_MEM_TABLE}
use Rattle.vhost_protocol.specs.Ask.{Asked, Sends, ◌>>◌, ◌>>=◌, ask, asks, frontend_feature, given}
use Rattle.vhost_protocol.specs.declared.asked.Shape.TheVariants as shape
use Rattle.vhost_protocol.specs.Error.{Error}
use Rattle.vhost_protocol.specs.Features.{DEVICE_STATE}
use Rattle.vhost_protocol.specs.FrontendCall.{FrontendCall, Frontend, PostcopyAckMemRegions, SetDeviceStateFd, SetLogBase}
use Rattle.vhost_protocol.specs.Written.{DeviceState}
use Rattle.vhost_link.specs.declared.plain.PlainHandle.{PlainHandle}
use Rattle.vhost_c_joined.specs.Judged.{GivesState, told_number}

abbrev is_state : HeardReq → Bool
is_state SET_DEVICE_STATE_FD = true
is_state _ = false

abbrev Stated : List ℕ → Asked PlainHandle → Type 0
Stated text (Sends w awaited g) = is_state w.request ≡ true → ¬ (told_number text ≡ 0x100)
Stated text _ = ⊤

-- where a request asks for one, the reply is not 0x100
abbrev pub AsksState : List ℕ → Asked PlainHandle → Type 0
AsksState text (Sends w awaited g) = w.request ≡ SET_DEVICE_STATE_FD → ¬ (told_number text ≡ 0x100)
AsksState text _ = ⊤

module _ (text : List ℕ) where
  ask-then : (x : Result ⊤ Error) (next : Asked PlainHandle) → Stated text next → Stated text (x >> next)
  ask-then (Ok u) next gives = gives
  ask-then (Err e) next gives = tt

  ask-given : (x : Option PlainHandle) (next : PlainHandle → Asked PlainHandle) → ((h : PlainHandle) → Stated text (next h)) → Stated text (given x >>= next)
  ask-given (Some h) next gives = gives h
  ask-given None next gives = tt

  ask-cond : (b : Bool) (x y : Asked PlainHandle) → Stated text x → Stated text y → Stated text (cond b x y)
  ask-cond true x y h k = h
  ask-cond false x y h k = k

  other : false ≡ true → ¬ (told_number text ≡ 0x100)
  other is = absurd (cc is)

  ruleset asking = (ask-then, ask-given, ask-cond, other)

  -- only regions are said to be mapped
  mapped : (f : Frontend) (q : HeardReq) → Stated text (ask f (PostcopyAckMemRegions q))
  mapped f SET_MEM_TABLE = other
  mapped f ADD_MEM_REG = other
  mapped f _ = tt

  asks-stated : (f : Frontend) (call : FrontendCall PlainHandle) → GivesState call text → Stated text (ask f call)
  asks-stated f (SetDeviceStateFd t h) gives = ask-then (frontend_feature f DEVICE_STATE) (asks f SET_DEVICE_STATE_FD (DeviceState t) (h ∷ []) shape.U64) (λ is. gives)
  asks-stated f (SetLogBase base (Some log)) gives = search asking depth 12
  asks-stated f (SetLogBase base None) gives = other
  asks-stated f (PostcopyAckMemRegions q) gives = mapped f q
  asks-stated f _ gives = search asking depth 12

pub state-asked : (f : Frontend) (call : FrontendCall PlainHandle) (text : List ℕ) (x : Asked PlainHandle) → GivesState call text → ask f call ≡ x → AsksState text x
state-asked f call text x gives is = by x (subst (λ y. Stated text y) is (asks-stated text f call gives))
  where
    by : (y : Asked PlainHandle) → Stated text y → AsksState text y
    by (Sends w awaited g) gives = λ is. gives (ap is_state is)
    by _ gives = tt
