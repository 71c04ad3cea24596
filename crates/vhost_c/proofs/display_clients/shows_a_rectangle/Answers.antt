use Rattle.vhost_c.proofs.Shown.{shown}
use Rattle.vhost_c.proofs.display_clients.shows_a_rectangle.Goals as goal

pub returns : goal.returns
returns c = λ none zeros. shown c.covretin_display_open-opened.ensures c.covretin_display_ask_set_scanout-sized.ensures c.covretin_display_take-taken.ensures c.covretin_display_ask_update_scanout-shown.ensures none (cc zeros) (cc zeros) (cc zeros) (cc zeros)
