use Rattle.std.proofs.Common.{[], refl}
use Rattle.vhost_c_backend.specs.Arguments.{other_arg, PutsOther}
use Rattle.vhost_c_backend.proofs.Serving.{list-kept, puts-plain, puts-none}
use Rattle.vhost_c_backend.proofs.served.Served.other.Goals as goal

pub returns-in-Some : goal.returns-in-Some
returns-in-Some c = puts-plain PutsOther c.args.self.now _ _ _ c.in-Some.call c.in-Some.ensures.one c.in-Some.ensures.none c.put_other.ensures (list-kept (other_arg c.in-Some.call) _ _ _ c.put_other.ensures)

pub returns-in-None : goal.returns-in-None
returns-in-None c = puts-none (λ hs e. PutsOther e) c.args.self.now [] _ _ _ c.in-None.ensures.one refl refl
