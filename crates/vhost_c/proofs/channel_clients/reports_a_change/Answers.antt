use Rattle.vhost_c.proofs.Reported.{reported}
use Rattle.vhost_c.proofs.channel_clients.reports_a_change.Goals as goal

pub returns : goal.returns
returns c = λ none zeros. reported c.covretin_channel_open-opened.ensures c.covretin_channel_set_config_change-agreed.ensures c.covretin_channel_ask_config_change-asked.ensures none (cc zeros) (cc zeros)
