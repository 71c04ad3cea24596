use Rattle.std.proofs.Common.{[], refl}
use Rattle.vhost_c_backend.specs.Arguments.{config_arg, PutsConfig}
use Rattle.vhost_c_backend.proofs.Serving.{list-kept, puts-plain, puts-none}
use Rattle.vhost_c_backend.proofs.served.Served.config.Goals as goal

pub returns-in-Some : goal.returns-in-Some
returns-in-Some c = puts-plain PutsConfig c.args.self.now _ _ _ c.in-Some.call c.in-Some.ensures.one c.in-Some.ensures.none c.put_config.ensures (list-kept (config_arg c.in-Some.call) _ _ _ c.put_config.ensures)

pub returns-in-None : goal.returns-in-None
returns-in-None c = puts-none (λ hs e. PutsConfig e) c.args.self.now [] _ _ _ c.in-None.ensures.one refl refl
