-- Where a call has its handles its step calls the device, and else it is refused.
use Rattle.std.proofs.Common.{◌≡◌, Bool, true, false, List, [], ◌∷◌, length, ◌==◌, not, ◌||◌, refl, sym}
use Rattle.std.proofs.lemmas.Bool.{eqb-true, false≢true}
use Rattle.std.specs.Prelude.{Option, Some, None}
use Rattle.vhost_message.specs.declared.heard_req.HeardReq.{HeardReq}
use Rattle.vhost_protocol.specs.Error.{InvalidMessage}
use Rattle.vhost_protocol.specs.Session.{Session}
use Rattle.vhost_protocol.specs.Split.{Message}
use Rattle.vhost_protocol.specs.Step.{Step, Refused, silently}
use Rattle.vhost_backend_req_handler_core.specs.Beginning.{step_of, with_one, with_wanted}
use Rattle.vhost_backend_req_handler_core.specs.Fits.{Makes, fits}
use Rattle.vhost_backend_req_handler_core.specs.declared.call.DeviceCall.{DeviceCall}
use Rattle.vhost_backend_req_handler_core.specs.declared.call.DeviceCall.TheVariants as call

-- it makes a call where there is one, and is refused where there is none
pub record Fitted {H B G : Type 0} (fit : Bool) (step : Step H B G) : Type 0 where
  pub made : fit ≡ true → Makes step
  pub unmade : fit ≡ false → step ≡ Refused (silently InvalidMessage)

one : {H B G : Type 0} (hs : List H) (next : H → Step H B G) → ((h : H) → Makes (next h)) → Fitted (length hs == 1) (with_one hs next)
one [] next each = record { made = λ e. absurd (cc (eqb-true 0 1 e)); unmade = λ e. refl }
one (h ∷ []) next each = record { made = λ e. each h; unmade = λ e. absurd (false≢true (sym e)) }
one (h ∷ h' ∷ hs) next each = record { made = λ e. absurd (cc (eqb-true (length (h ∷ h' ∷ hs)) 1 e)); unmade = λ e. refl }

wanted : {H B G : Type 0} (wants : Bool) (hs : List H) (next : Option H → Step H B G) → ((h : Option H) → Makes (next h)) → Fitted (not wants || length hs == 1) (with_wanted wants hs next)
wanted true hs next each = one hs (λ h. next (Some h)) (λ h. each (Some h))
wanted false hs next each = record { made = λ e. each None; unmade = λ e. absurd (false≢true (sym e)) }

none : {H B G : Type 0} {step : Step H B G} → Makes step → Fitted true step
none p = record { made = λ e. p; unmade = λ e. absurd (false≢true (sym e)) }

ruleset fitting = (none, one, wanted)

module _ {H : Type 0} (B G : Type 0) (s : Session) (m : Message HeardReq H) where
  pub fitted : (c : DeviceCall) → Fitted (fits c m.handles) (step_of {B = B} {G = G} s m c)
  fitted call.SetOwner = none tt
  fitted _ = search fitting
