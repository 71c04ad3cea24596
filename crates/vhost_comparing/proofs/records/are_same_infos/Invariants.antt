use Rattle.std.proofs.Common.{◌≡◌, map, take}
use Rattle.vhost_frontend_core.specs.Regions.{info_of}
use Rattle.vhost_comparing.proofs.records.are_same_infos.Given as goal

abbrev pub invariant-loop-i : goal.invariant-loop-i
invariant-loop-i l = map info_of (take l.i l.a) ≡ map info_of (take l.i l.b)
