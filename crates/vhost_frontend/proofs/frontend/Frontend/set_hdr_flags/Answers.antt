-- The flags of each request.
use mathlib.Core.Logic.{∥∥₁_map}
use Rattle.vhost_frontend.specs.Turn.Reached.{flagged}
use Rattle.vhost_frontend.proofs.frontend.Frontend.set_hdr_flags.Goals as goal

pub invariant_of-deref_mut : goal.invariant_of-deref_mut
invariant_of-deref_mut g c = record { reached = ∥∥₁_map c.deref_mut.result.now.reached (λ r. flagged _ r c.set_hdr_flags.ensures.endpoint c.set_hdr_flags.ensures.session) }
