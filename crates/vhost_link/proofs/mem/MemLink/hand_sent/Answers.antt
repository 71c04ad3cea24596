use Rattle.std.proofs.Common.{◌≡◌, length, arith, ap, sym, ◌∙◌}
use Rattle.vhost_link.specs.Mem.{piece}
use Rattle.vhost_link.proofs.Handing.{none-left}
use Rattle.vhost_link.proofs.mem.MemLink.hand_sent.Goals as goal

pub returns-clause-end : goal.returns-clause-end
returns-clause-end c = λ zero. sym (ap (λ e. e.sent) c.self.view_is) ∙ none-left c.self.inside.sent (omega (arith, zero, c.get.ensures.count, c.requires.room))
