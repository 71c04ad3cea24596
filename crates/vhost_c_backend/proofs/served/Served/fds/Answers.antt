use Rattle.std.proofs.Common.{[], refl}
use Rattle.vhost_c_backend.specs.Arguments.{fds_arg, PutsFds}
use Rattle.vhost_c_backend.proofs.Serving.{list-kept, puts-some, puts-none}
use Rattle.vhost_c_backend.proofs.served.Served.fds.Goals as goal

pub returns-in-Some : goal.returns-in-Some
returns-in-Some c = puts-some PutsFds c.args.self.now c.handles.result.now _ _ _ c.in-Some.call c.in-Some.ensures.one c.in-Some.ensures.none c.handles.ensures c.put_fds.ensures (list-kept (fds_arg c.handles.result.now c.in-Some.call) _ _ _ c.put_fds.ensures)

pub returns-in-None : goal.returns-in-None
returns-in-None c = puts-none PutsFds c.args.self.now [] _ _ _ c.in-None.ensures.one refl refl
