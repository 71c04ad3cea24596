-- A profile.
use mathlib.Core.Logic.{∥∥₁_map}
use Rattle.vhost_frontend.specs.Turn.Reached.{profiled}
use Rattle.vhost_frontend.proofs.frontend.Frontend.set_profile.Goals as goal

pub invariant_of-deref_mut : goal.invariant_of-deref_mut
invariant_of-deref_mut g c = record { reached = ∥∥₁_map c.deref_mut.result.now.reached (λ r. profiled _ r c.set_profile.ensures.endpoint c.set_profile.ensures.session) }
