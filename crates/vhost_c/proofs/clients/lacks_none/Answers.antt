use Rattle.std.proofs.Common.{◌∙◌}
use Rattle.vhost_c.proofs.Lacking.{lacks-none}
use Rattle.vhost_c.proofs.clients.lacks_none.Goals as goal

pub returns : goal.returns
returns c = λ no-feature no-operation. c.covretin_inactive-inactive.ensures.inactive ∙ lacks-none c.covretin_ask_get_config-asked.ensures no-feature no-operation
