-- A whole call, by the form of its answer.
use Rattle.std.proofs.Common.{ap, refl, Ok, Err}
use Rattle.vhost_frontend_core.specs.Values.{outcome_of}
use Rattle.vhost_frontend.proofs.Forms.{of, not-base}
use Rattle.vhost_frontend.proofs.Whole.{as-whole}
use Rattle.vhost_frontend.proofs.quiet.Quiet.base.Goals as goal

pub returns-in-Base : goal.returns-in-Base
returns-in-Base g c = as-whole (Ok c.in-Base.base) c.requires refl (ap outcome_of c.in-Base.is) c.call.ensures.whole

pub returns-in-Failed : goal.returns-in-Failed
returns-in-Failed g c = as-whole (Err c.in-Failed.error) c.requires refl (ap outcome_of c.in-Failed.is) c.call.ensures.whole

pub returns : goal.returns
returns g c = absurd (not-base c.call.result (of c.call.result c.requires c.call.ensures.form) c.in_default.not-Base c.in_default.not-Failed)
