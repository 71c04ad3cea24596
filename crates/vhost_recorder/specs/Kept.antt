-- What is true of a recording between two calls.
use Rattle.std.specs.Prelude.{◌≡◌, ◌&&◌, Bool, true, false, List, [], ◌∷◌, map, Option, Some, None, Result, ⊤}
use Rattle.vhost_protocol.specs.Error.{Error}
use Rattle.vhost_protocol.specs.FrontendCall.{FrontendCall, Value, Frontend, new_frontend}
use Rattle.vhost_protocol.specs.Joined.{Shown, JoinedStep}
use Rattle.vhost_protocol.specs.Log.{Entry, is_plain_call, is_same_bit, first_bit, offered_bit}
use Rattle.vhost_protocol.specs.Session.{Session, fresh}
use Rattle.vhost_link.specs.declared.plain.PlainHandle.{PlainHandle}
use Rattle.vhost_joined.specs.Device.{Gives, opens_backend, opens_gpu}
use Rattle.vhost_joined.specs.Joined.{IsReady}
use Rattle.vhost_recorder.specs.Recording.{Recording, HasLegalLog}

-- a call and its answer
abbrev pub Exchange : Type 0
Exchange = FrontendCall PlainHandle × Result (Value PlainHandle) Error

abbrev pub exchange : Entry PlainHandle → Exchange
exchange e = (e.call, e.result)

-- an entry fails no premise, where this bit of the features was answered before
abbrev pub is_plain : Option Bool → Entry PlainHandle → Bool
is_plain before e = is_plain_call e.call && is_same_bit before (offered_bit e.call e.result)

-- none of the entries does
abbrev pub are_plain : Option Bool → List (Entry PlainHandle) → Bool
are_plain before [] = true
are_plain before (e ∷ es) = is_plain before e && are_plain (first_bit before (offered_bit e.call e.result)) es

-- the bit that was answered by then
abbrev pub bit_after : Option Bool → List (Entry PlainHandle) → Option Bool
bit_after before [] = before
bit_after before (e ∷ es) = bit_after (first_bit before (offered_bit e.call e.result)) es

-- no other bit was answered
abbrev pub Allows : Option Bool → Bool → Type 0
Allows None bit = ⊤
Allows (Some b) bit = b ≡ bit

module _ {Dev : Type 0} (gives : Gives Dev) where
  -- joined steps one after another, none of which is the last of a run
  abbrev pub GoesFrom : Frontend → Session → Dev → List Exchange → Frontend → Session → Dev → Type 0
  GoesFrom f s d [] f' s' d' = (f' ≡ f) × (s' ≡ s) × (d' ≡ d)
  GoesFrom f s d (e ∷ es) f' s' d' =
      (shown : Shown PlainHandle) × (g : Frontend) × (t : Session) × (mid : Dev)
      × JoinedStep gives opens_backend opens_gpu f s d e.0 shown g t mid × (shown.result ≡ e.1) × (shown.last ≡ false) × GoesFrom g t mid es f' s' d'

  -- The run goes on: its steps lead to the present, and both sides are ready for the next.
  pub record GoesOn (r : Recording Dev) : Type 0 where
    pub opening : Dev
    pub run : GoesFrom (new_frontend r.queues) fresh opening (map exchange r.entries) r.joined.frontend r.joined.session r.joined.device
    pub ready : (bit : Bool) → Allows (bit_after None r.entries) bit → IsReady bit r.joined

  -- The log is legal; and where the run has not stopped and no entry failed a premise, it goes on.
  pub record IsKept (r : Recording Dev) : Type 0 where
    pub legal : HasLegalLog gives r
    pub goes_on : r.joined.stopped ≡ None → are_plain None r.entries ≡ true → GoesOn r
