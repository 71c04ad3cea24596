-- So many calls were done.
use Rattle.std.proofs.Common.{◌≡◌, ◌+◌, length}
use Rattle.vhost_c_channel_joined.specs.Joined.{AreMade, AreInStep, entries}
use Rattle.vhost_c_channel_joined.proofs.Running.{Going}
use Rattle.vhost_c_channel_joined.proofs.joined.joined_channel_calls.Given as goal

abbrev pub invariant-calls : goal.invariant-calls
invariant-calls l = record {
  going : AreInStep l.fn.asker l.fn.server → AreMade (entries l.fn.calls.items) → Going (entries l.fn.calls.items) (entries l.calls.items) l.fn.asker l.fn.server l.asker l.server;
  left : length l.calls.items + l.counter ≡ length l.fn.calls.items;
}
