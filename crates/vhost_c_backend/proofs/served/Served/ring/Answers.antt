use Rattle.std.proofs.Common.{[], refl, ap, ◌∙◌}
use Rattle.std.specs.Prelude.{ok_or}
use Rattle.vhost_c_common.specs.declared.refusal.Refusal.TheVariants.{OtherCall}
use Rattle.vhost_c_backend.specs.Arguments.{ring_arg}
use Rattle.vhost_c_backend.proofs.Serving.{tells-plain, tells-none}
use Rattle.vhost_c_backend.proofs.served.Served.ring.Goals as goal

pub returns-in-Some : goal.returns-in-Some
returns-in-Some c = tells-plain ring_arg c.args.self.now _ c.in-Some.call c.in-Some.ensures.one c.in-Some.ensures.none (c.ok_or.ensures.value ∙ ap (λ o. ok_or o OtherCall) c.ring_of.ensures)

pub returns-in-None : goal.returns-in-None
returns-in-None c = tells-none (λ hs e. ring_arg e) c.args.self.now [] _ c.in-None.ensures.one refl
