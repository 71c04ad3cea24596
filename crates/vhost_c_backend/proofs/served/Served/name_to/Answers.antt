use Rattle.std.proofs.Common.{[], refl}
use Rattle.vhost_c_backend.specs.Arguments.{name_arg, PutsName}
use Rattle.vhost_c_backend.proofs.Serving.{name-kept, puts-plain, puts-none}
use Rattle.vhost_c_backend.proofs.served.Served.name_to.Goals as goal

pub returns-in-Some : goal.returns-in-Some
returns-in-Some c = puts-plain PutsName c.args.self.now _ _ _ c.in-Some.call c.in-Some.ensures.one c.in-Some.ensures.none c.put_name.ensures (name-kept (name_arg c.in-Some.call) _ _ _ c.put_name.ensures)

pub returns-in-None : goal.returns-in-None
returns-in-None c = puts-none (λ hs e. PutsName e) c.args.self.now [] _ _ _ c.in-None.ensures.one refl refl
