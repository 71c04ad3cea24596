-- A whole call, by the form of its answer.
use Rattle.std.proofs.Common.{ap, Ok, Err}
use Rattle.vhost_frontend_core.specs.Values.{outcome_of}
use Rattle.vhost_frontend.proofs.Forms.{of, not-bases}
use Rattle.vhost_frontend.proofs.Whole.{as-whole-with-room}
use Rattle.vhost_frontend.proofs.quiet.Quiet.bases.Goals as goal

pub returns-in-Bases : goal.returns-in-Bases
returns-in-Bases g c = as-whole-with-room (Ok c.in-Bases.bases) (ap outcome_of c.in-Bases.is) c.call.ensures.whole

pub returns-in-Failed : goal.returns-in-Failed
returns-in-Failed g c = as-whole-with-room (Err c.in-Failed.error) (ap outcome_of c.in-Failed.is) c.call.ensures.whole

pub returns : goal.returns
returns g c = absurd (not-bases c.call.result (of c.call.result c.requires c.call.ensures.form) c.in_default.not-Bases c.in_default.not-Failed)
