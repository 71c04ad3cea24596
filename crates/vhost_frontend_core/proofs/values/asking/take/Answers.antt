-- An answer that is kept.
use Rattle.vhost_frontend_core.proofs.KeptValues.{took-well}
use Rattle.vhost_frontend_core.proofs.values.asking.take.Goals as goal

pub returns : goal.returns
returns c = took-well c.of.ensures c.take_value-answer.ensures
