use Rattle.std.proofs.Common.{◌≡◌, ◌≤◌, ◌++◌, take, drop, length}
use Rattle.vhost_c_backend.specs.Arguments.{regions_with}
use Rattle.vhost_c_backend.proofs.regions.put_each.Given as goal

-- the regions so far, and behind them what was there
abbrev pub invariant-regions : goal.invariant-regions
invariant-regions l = (l.i ≤ length l.regions) × (l.places ≡ regions_with (take l.i l.regions) l.handles ++ drop l.i l.fn.places)
