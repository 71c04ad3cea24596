use Rattle.vhost_c.proofs.Early.{early}
use Rattle.vhost_c.proofs.clients.takes_too_early.Goals as goal

pub returns : goal.returns
returns c = early c.covretin_open-opened.ensures c.covretin_ask_get_features-asked.ensures c.covretin_take-taken.ensures.taken
