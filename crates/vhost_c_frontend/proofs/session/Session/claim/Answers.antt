use Rattle.std.proofs.Common.{ℤ, w32, ap, subst, ◌∙◌}
use Rattle.std.proofs.lemmas.Int.{to_z-of_z}
use Rattle.std.specs.Prelude.{Contains}
use Rattle.vhost_c_common.specs.Held.{claimable}
use Rattle.vhost_c_common.specs.declared.held.Held.{Held}
use Rattle.vhost_c_frontend.proofs.session.Session.claim.Goals as goal

pub returns-else-claim_held : goal.returns-else-claim_held
returns-else-claim_held c = (
  λ idle. subst {A = ℤ} (λ n. ¬ (Contains (claimable c.args.self.now.held) n)) (to_z-of_z w32 c.args.fd c.ranges.fd) c.if-claim_held.ensures.claims.0,
  c.claim_held.ensures.rest ∙ ap {A = Held} (λ h. record c.args.self.now { held = h }) c.if-claim_held.ensures.claims.1,
)
