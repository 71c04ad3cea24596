-- Frontend and handler in lockstep: what a joined run is worth.
use Rattle.std.specs.Prelude.{◌≡◌, ◌⊎◌, List, [], ◌∷◌, Bool, None, true, false, Result, Ok, ⊤}
use Rattle.vhost_message.specs.Bits.{has_bit}
use Rattle.vhost_protocol.specs.Error.{Error}
use Rattle.vhost_protocol.specs.Features.{PROTOCOL_FEATURES}
use Rattle.vhost_protocol.specs.FrontendCall.{FrontendCall, GetFeatures, SetHdrFlags, Value, Number}
use Rattle.vhost_protocol.specs.Joined.{JoinedRun}
use Rattle.vhost_link.specs.declared.plain.PlainHandle.{PlainHandle}
use Rattle.vhost_frontend_core.specs.declared.values.call.FrontendCall as code
use Rattle.vhost_frontend_core.specs.declared.values.answer.FrontendAnswer.{FrontendAnswer}
use Rattle.vhost_frontend_core.specs.Values.{call_of, answer_of}
use Rattle.vhost_joined.specs.declared.halt.Halt.{Halt}
use Rattle.vhost_joined.specs.Device.{Gives, opens_backend, opens_gpu}
use Rattle.vhost_joined.specs.Joined.{View, IsReady, Offers, Keeps, Moves, StepsBy, StopsAtEnd}
use Rattle.vhost_joined.specs.Runs as runs
use Rattle.vhost_joined.specs.Runs.{Runs}

-- the calls that were answered, with their answers
abbrev pub entries : List code.FrontendCall → List FrontendAnswer → List (FrontendCall PlainHandle × Result (Value PlainHandle) Error)
entries (c ∷ cs) (a ∷ as') = (call_of c, answer_of a) ∷ entries cs as'
entries _ _ = []

-- from a call on, requests are not sent as replies
abbrev pub IsPlain : {H : Type 0} → FrontendCall H → Type 0
IsPlain (SetHdrFlags flags) = has_bit flags 2 ≡ false
IsPlain _ = ⊤

-- the same of many calls
abbrev pub ArePlain : List code.FrontendCall → Type 0
ArePlain [] = ⊤
ArePlain (c ∷ cs) = IsPlain (call_of c) × ArePlain cs

-- if the answer shows the features of the device, they have the bit of protocol features, or have it not
abbrev pub IsOffered : Bool → FrontendCall PlainHandle → Result (Value PlainHandle) Error → Type 0
IsOffered bit GetFeatures (Ok (Number n)) = has_bit n PROTOCOL_FEATURES ≡ bit
IsOffered bit _ _ = ⊤

-- the same of the answers of many calls
abbrev pub AreOffered : Bool → List code.FrontendCall → List FrontendAnswer → Type 0
AreOffered bit (c ∷ cs) (a ∷ as') = IsOffered bit (call_of c) (answer_of a) × AreOffered bit cs as'
AreOffered bit _ _ = ⊤

module _ {Dev : Type 0} (gives : Gives Dev) (bit : Bool) where
  -- Answered calls one after another, each of which keeps the protocol. Both sides are in step after each but the last step, and behind that there is none. Behind them nothing changed but that lists of handles may be there again.
  abbrev pub KeepsAll : View Dev → List code.FrontendCall → List FrontendAnswer → View Dev → Type 0
  KeepsAll old cs [] new = new ≡ record old { lists = new.lists }
  KeepsAll old [] (a ∷ as') new = ⊥
  KeepsAll old (c ∷ cs) (a ∷ as') new =
      (mid : View Dev) × (k : Keeps gives old (call_of c) (answer_of a) mid) × (k.shown.last ≡ false → IsReady bit mid) × (k.shown.last ≡ true → as' ≡ []) × KeepsAll mid cs as' new

  -- The answered calls are a joined run of the protocol, to the sessions and the device of now. Nothing is left on the way, and unless the run stopped both sides are in step. Under Standard it stops only where the session has ended.
  pub record InLockstep (old : View Dev) (calls : List code.FrontendCall) (answers : List FrontendAnswer) (new : View Dev) : Type 0 where
    pub run : JoinedRun gives opens_backend opens_gpu old.frontend old.session old.device (entries calls answers) new.frontend new.session new.device
    pub each : KeepsAll old calls answers new
    pub in_step : new.stopped ≡ None → IsReady bit new
    pub no_request : new.to_handler ≡ []
    pub no_reply : new.to_frontend ≡ []
    pub ends : StopsAtEnd old new

  -- Frontend and handler are in lockstep; or they were up to the last answered call, where a premise failed.
  abbrev pub Lockstep : View Dev → List code.FrontendCall → List FrontendAnswer → View Dev → Type 0
  Lockstep = runs.Lockstep InLockstep (λ old call answer new. Moves gives old (call_of call) (answer_of answer) new) (λ v. v.stopped)

-- Where all features that were answered agree on protocol features (or all that the device could answer do), no request is sent as a reply, and both sides were in step, they are in lockstep.
abbrev pub StayInLockstep : {Dev : Type 0} → Gives Dev → View Dev → List code.FrontendCall → List FrontendAnswer → View Dev → Type 0
StayInLockstep gives old calls answers new = (bit : Bool) → AreOffered bit calls answers ⊎ Offers gives bit → IsReady bit old → old.stopped ≡ None → ArePlain calls → Lockstep gives bit old calls answers new

-- The headline, the contract of `Joined::run`: for every device, every list of calls and every pair of scripts.
abbrev pub RunsCalls : {Dev : Type 0} → Gives Dev → View Dev → List code.FrontendCall → List FrontendAnswer → Result ⊤ Halt → List FrontendAnswer → View Dev → Type 0
RunsCalls gives = Runs (StepsBy gives) (StayInLockstep gives)
