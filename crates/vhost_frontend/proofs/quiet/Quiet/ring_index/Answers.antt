-- A whole call, by the form of its answer.
use Rattle.std.proofs.Common.{ap, refl, Ok, Err}
use Rattle.vhost_frontend_core.specs.Values.{outcome_of}
use Rattle.vhost_frontend.proofs.Forms.{of, not-ring-index}
use Rattle.vhost_frontend.proofs.Whole.{as-whole}
use Rattle.vhost_frontend.proofs.quiet.Quiet.ring_index.Goals as goal

pub returns-in-Number : goal.returns-in-Number
returns-in-Number g c = as-whole (Ok _) c.requires refl (ap outcome_of c.in-Number.is) c.call.ensures.whole

pub returns-in-Failed : goal.returns-in-Failed
returns-in-Failed g c = as-whole (Err c.in-Failed.error) c.requires refl (ap outcome_of c.in-Failed.is) c.call.ensures.whole

pub returns : goal.returns
returns g c = absurd (not-ring-index c.call.result (of c.call.result c.requires c.call.ensures.form) c.in_default.not-Number c.in_default.not-Failed)
