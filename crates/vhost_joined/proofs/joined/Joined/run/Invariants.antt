use Rattle.std.proofs.Common.{◌≤◌, ◌+◌, ◌-◌, length, take, vec_len}
use Rattle.std.specs.Prelude.{vec_capacity}
use Rattle.vhost_joined.proofs.Running.{Ran}
use Rattle.vhost_joined.specs.Joined.{StepsBy}
use Rattle.vhost_joined.proofs.joined.Joined.run.Given as goal
use Rattle.vhost_device.specs.Reached.{by_trait}

abbrev pub invariant-loop-call : goal.invariant-loop-call
invariant-loop-call g l = record {
  ran : Ran (StepsBy (by_trait g.D.VhostUserBackendReqHandlerMut.gives)) l.fn.self (take l.call-index l.calls) l.fn.out.items l.out.items l.self;
  room : vec_len l.out + (length l.calls - l.call-index) ≤ vec_capacity l.out;
}
