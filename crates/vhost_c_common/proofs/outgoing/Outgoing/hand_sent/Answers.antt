use Rattle.std.proofs.Common.{ap, ◌∙◌}
use Rattle.vhost_link.specs.Ends.{Ends}
use Rattle.vhost_connection.specs.State.{ahead_of, state}
use Rattle.vhost_c_common.proofs.outgoing.Outgoing.hand_sent.Goals as goal

pub returns-clause-rest : goal.returns-clause-rest
unfolding ahead_of
returns-clause-rest g c =
    ap {A = Ends} (λ l. record (state c.args.end.now) { link = l }) (c.hand_sent-count.ensures.rest ∙ ap {A = Ends} (λ l. record l { sent = c.hand_sent-count.new.self.sent }) c.link.ensures.value)
