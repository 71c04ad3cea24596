-- What the session remembered, and then what is reported by it.
use Rattle.std.proofs.Common.{◌∙◌, ap}
use Rattle.vhost_backend_req_handler_core.specs.Concluding.{reported}
use Rattle.vhost_backend_req_handler_core.proofs.conclude.Conclusions.conclude.Goals as goal

pub returns : goal.returns
returns g c b = c.report.ensures b ∙ ap (λ s. reported s c.args.need_reply b c.args.then.now c.args.answer.now) c.remember.ensures
