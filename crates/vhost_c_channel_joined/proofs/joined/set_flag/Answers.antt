-- A flag is set, of one session or of both.
use Rattle.std.proofs.Common.{sym, subst}
use Rattle.vhost_c_channel.specs.Asking.{flag_in}
use Rattle.vhost_c_channel_joined.specs.Joined.{Joined}
use Rattle.vhost_c_channel_joined.specs.declared.joined.DoneCall.{DoneCall}
use Rattle.vhost_c_channel_joined.proofs.Joining.{acknowledged, flagged}
use Rattle.vhost_c_channel_joined.proofs.joined.set_flag.Goals as goal

pub returns-in-ReplyAck : goal.returns-in-ReplyAck
returns-in-ReplyAck c a steps =
    subst {A = DoneCall} (λ d. Joined (flag_in c.args.feature c.args.on, a) c.args.asker.now c.args.server.now d c.agree.new.self c.acknowledge.new.self) (sym c.of_flag.ensures)
    (acknowledged c.args.feature c.in-ReplyAck.is c.args.on a c.args.asker.now c.agree.new.self c.args.server.now c.acknowledge.new.self steps c.agree.ensures c.acknowledge.ensures)

pub returns : goal.returns
returns c a steps =
    subst {A = DoneCall} (λ d. Joined (flag_in c.args.feature c.args.on, a) c.args.asker.now c.args.server.now d c.agree.new.self c.args.server.now) (sym c.of_flag-2.ensures)
    (flagged c.args.on a c.args.asker.now c.agree.new.self c.args.server.now steps c.args.feature c.in_default.not-ReplyAck c.agree.ensures)
