use Rattle.std.proofs.Common.{◌≡◌, ◌++◌, take, drop}
use Rattle.vhost_protocol.specs.Answered.{rebased}
use Rattle.vhost_backend_req_handler.proofs.bases.rebase.Given as goal

-- the regions so far have their address, and the others are as they were
abbrev pub invariant-regions : goal.invariant-regions
invariant-regions l = l.regions ≡ rebased (take l.i l.fn.regions) (take l.i l.bases) ++ drop l.i l.fn.regions
