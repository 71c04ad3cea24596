use Rattle.std.proofs.Common.{◌≡◌, ◌≤◌, take, drop, map, length}
use Rattle.vhost_c_common.specs.Records.{fd_in}
use Rattle.vhost_c_common.proofs.records.put_fds.Given as goal

-- the descriptors so far, and behind them what was there
abbrev pub invariant-handles : goal.invariant-handles
invariant-handles l = (length l.handles ≤ length l.fds) × (take l.i l.fds ≡ map fd_in (take l.i l.handles)) × (drop l.i l.fds ≡ drop l.i l.fn.fds)
