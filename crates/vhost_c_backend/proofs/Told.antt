-- What is told of the call that is to be replied to, by the number that C is answered.
use Rattle.std.proofs.Common.{◌≡◌, List, Option, Result, Ok, Err, refl, subst}
use Rattle.vhost_link.specs.declared.plain.PlainHandle.{PlainHandle}
use Rattle.vhost_backend_req_handler_core.specs.declared.call.DeviceCall.{DeviceCall}
use Rattle.vhost_c_common.specs.declared.refusal.Refusal.{Refusal}
use Rattle.vhost_c_backend.specs.Serving.{Tells, Puts, Telling, Putting}
use Rattle.vhost_c_backend.specs.declared.served.Served.{Served}

module _ {A : Type 0} (of : List PlainHandle → DeviceCall → Option A) (s t : Served) (same : t ≡ s) where
  pub telling : (a : A) → Tells of t (Ok a) → Telling of a s (Ok tt) s
  telling a tells = (subst {A = Served} (λ u. Tells of u (Ok a)) same tells, refl)

  pub refusing : (r : Refusal) → Tells of t (Err r) → Tells of s (Err r) × (s ≡ s)
  refusing r tells = (subst {A = Served} (λ u. Tells of u (Err r)) same tells, refl)

module _ {A B : Type 0} (puts : List PlainHandle → DeviceCall → List A → List A → Result B Refusal → Type 0) (s t : Served) (same : t ≡ s) (before after : List A) where
  pub putting : (b : B) → Puts puts t before after (Ok b) → Putting puts before after b s (Ok tt) s
  putting b it = (subst {A = Served} (λ u. Puts puts u before after (Ok b)) same it, refl)

  pub lacking : (r : Refusal) → Puts puts t before after (Err r) → Puts puts s before after (Err r) × (s ≡ s)
  lacking r it = (subst {A = Served} (λ u. Puts puts u before after (Err r)) same it, refl)
