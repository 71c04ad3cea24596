-- So many calls were done.
use Rattle.std.proofs.Common.{Bool, drop}
use Rattle.vhost_c_joined.specs.Joined.{AreAllowed, AreInStep, steps_of}
use Rattle.vhost_c_joined.proofs.Running.{Going}
use Rattle.vhost_c_joined.proofs.joined.joined_calls.Given as goal

abbrev pub invariant-calls : goal.invariant-calls
invariant-calls l = record {
  going : (bit : Bool) → AreInStep bit l.fn.front l.fn.back → AreAllowed bit (steps_of l.fn.calls.items l.replies) → Going bit (steps_of l.fn.calls.items l.replies) (steps_of l.calls.items (drop l.i l.replies)) l.fn.front l.fn.back l.front l.back;
}
