-- What is told of the call that is to be replied to, by the number that C is answered.
use Rattle.std.proofs.Common.{◌≡◌, ℕ, List, Option, Result, Ok, Err, refl, subst}
use Rattle.std.specs.Prelude.{⊤}
use Rattle.vhost_link.specs.declared.plain.PlainHandle.{PlainHandle}
use Rattle.vhost_frontend_req_handler.specs.declared.call.FrontendSideCall.{FrontendSideCall}
use Rattle.vhost_c_common.specs.declared.refusal.Refusal.{Refusal}
use Rattle.vhost_c_channel.specs.Serving.{Tells, PutsInto, Telling, Putting}
use Rattle.vhost_c_channel.specs.declared.serving.ChannelServer.{ChannelServer}

module _ {A : Type 0} (of : FrontendSideCall PlainHandle → Option A) (s t : ChannelServer) (same : t ≡ s) where
  pub telling : (a : A) → Tells of t (Ok a) → Telling of a s (Ok tt) s
  telling a tells = (subst {A = ChannelServer} (λ u. Tells of u (Ok a)) same tells, refl)

  pub refusing : (r : Refusal) → Tells of t (Err r) → Tells of s (Err r) × (s ≡ s)
  refusing r tells = (subst {A = ChannelServer} (λ u. Tells of u (Err r)) same tells, refl)

pub putting : (s t : ChannelServer) → t ≡ s → (before after : List ℕ) (outcome : Result ⊤ Refusal) → PutsInto t before after outcome → Putting before after s outcome s
putting s t same before after outcome puts = (subst {A = ChannelServer} (λ u. PutsInto u before after outcome) same puts, refl)
