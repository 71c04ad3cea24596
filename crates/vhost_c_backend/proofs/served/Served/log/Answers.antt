use Rattle.std.proofs.Common.{[], refl, ap, ◌∙◌}
use Rattle.std.specs.Prelude.{ok_or}
use Rattle.vhost_c_common.specs.declared.refusal.Refusal.TheVariants.{OtherCall}
use Rattle.vhost_c_backend.specs.Arguments.{log_arg}
use Rattle.vhost_c_backend.proofs.Serving.{tells-some, tells-none}
use Rattle.vhost_c_backend.proofs.served.Served.log.Goals as goal

pub returns-in-Some : goal.returns-in-Some
returns-in-Some c = tells-some log_arg c.args.self.now c.handles.result.now _ c.in-Some.call c.in-Some.ensures.one c.in-Some.ensures.none c.handles.ensures (c.ok_or.ensures.value ∙ ap (λ o. ok_or o OtherCall) c.log_of.ensures)

pub returns-in-None : goal.returns-in-None
returns-in-None c = tells-none log_arg c.args.self.now [] _ c.in-None.ensures.one refl
