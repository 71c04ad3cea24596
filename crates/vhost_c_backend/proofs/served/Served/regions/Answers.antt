use Rattle.std.proofs.Common.{[], refl}
use Rattle.vhost_c_backend.specs.Arguments.{regions_arg, PutsRegions}
use Rattle.vhost_c_backend.proofs.Serving.{list-kept, puts-some, puts-none}
use Rattle.vhost_c_backend.proofs.served.Served.regions.Goals as goal

pub returns-in-Some : goal.returns-in-Some
returns-in-Some c = puts-some PutsRegions c.args.self.now c.handles.result.now _ _ _ c.in-Some.call c.in-Some.ensures.one c.in-Some.ensures.none c.handles.ensures c.put_regions.ensures (list-kept (regions_arg c.handles.result.now c.in-Some.call) _ _ _ c.put_regions.ensures)

pub returns-in-None : goal.returns-in-None
returns-in-None c = puts-none PutsRegions c.args.self.now [] _ _ _ c.in-None.ensures.one refl refl
