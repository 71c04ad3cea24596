-- A whole call, by the form of its answer.
use Rattle.std.proofs.Common.{ap, refl, Ok, Err}
use Rattle.vhost_frontend_core.specs.Values.{outcome_of}
use Rattle.vhost_frontend.proofs.Forms.{of, not-plain}
use Rattle.vhost_frontend.proofs.Whole.{as-whole}
use Rattle.vhost_frontend.proofs.quiet.Quiet.done.Goals as goal

pub returns-in-Done : goal.returns-in-Done
returns-in-Done g c = as-whole (Ok tt) c.requires refl (ap outcome_of c.in-Done.is) c.call.ensures.whole

pub returns-in-Failed : goal.returns-in-Failed
returns-in-Failed g c = as-whole (Err c.in-Failed.error) c.requires refl (ap outcome_of c.in-Failed.is) c.call.ensures.whole

pub returns : goal.returns
returns g c = absurd (not-plain c.call.result (of c.call.result c.requires c.call.ensures.form) c.in_default.not-Done c.in_default.not-Failed)
