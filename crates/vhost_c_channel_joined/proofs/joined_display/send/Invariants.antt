-- What was sent and what is left are what was to be sent.
use Rattle.std.proofs.Common.{length}
use Rattle.vhost_c_channel.specs.Display.{queued}
use Rattle.vhost_c_channel_joined.specs.JoinedDisplay.{AreSendable, Moves}
use Rattle.vhost_c_channel_joined.proofs.joined_display.send.Given as goal

abbrev pub invariant-pieces : goal.invariant-pieces
invariant-pieces l = record {
  moves : AreSendable (queued l.fn.session) → Moves l.fn.display.pending l.fn.session l.display.pending l.session;
}

abbrev pub decreases-pieces : goal.decreases-pieces
decreases-pieces l = length (queued l.session)
