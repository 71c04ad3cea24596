use Rattle.vhost_c.proofs.Shown.{learnt}
use Rattle.vhost_c.proofs.display_clients.learns_the_features.Goals as goal

pub returns : goal.returns
returns c = λ none zeros. learnt c.covretin_display_open-opened.ensures c.covretin_display_ask_get_protocol_features-asked.ensures c.covretin_display_receive-header.ensures.received c.covretin_display_receive-record.ensures.received c.covretin_display_take_number-taken.ensures.does
    none (cc zeros) (cc zeros) (cc zeros) (cc zeros) (cc zeros)
