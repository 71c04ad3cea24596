use Rattle.vhost_c.proofs.Heard.{heard}
use Rattle.vhost_c.proofs.channel_clients.hears_a_change.Goals as goal

pub returns : goal.returns
returns c = λ none zeros. heard _ c.covretin_channel_server_open-opened.ensures c.covretin_channel_server_set_reply_ack-agreed.ensures c.covretin_channel_server_receive-received.ensures.received c.covretin_channel_server_next-asked.ensures.does c.covretin_channel_reply_number-replied.ensures none (cc zeros) (cc zeros) (cc zeros) (cc zeros)
