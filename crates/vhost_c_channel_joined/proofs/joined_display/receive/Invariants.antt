-- So many bytes of the reply came.
use Rattle.std.proofs.Common.{◌≤◌, ◌-◌, length}
use Rattle.vhost_c_channel_joined.specs.JoinedDisplay.{IsComing}
use Rattle.vhost_c_channel_joined.proofs.joined_display.receive.Given as goal

abbrev pub invariant-pieces : goal.invariant-pieces
invariant-pieces l = record {
  within : l.at ≤ length l.reply;
  coming : IsComing l.reply 0 l.fn.session l.fn.session → IsComing l.reply l.at l.fn.session l.session;
}

abbrev pub decreases-pieces : goal.decreases-pieces
decreases-pieces l = length l.reply - l.at
