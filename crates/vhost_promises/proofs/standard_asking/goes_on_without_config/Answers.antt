-- A reply without a body, and one behind it.
use Rattle.std.proofs.Common.{refl}
use Rattle.vhost_promises.proofs.StandardAsking.{goes-on-asking}
use Rattle.vhost_promises.proofs.standard_asking.goes_on_without_config.Goals as goal

pub returns : goal.returns
returns c queues =
    goes-on-asking c.talks_law.ensures.talks queues _ _ _ c.args.frontend.now.inner c.set_profile.new.self.inner c.asks_config-config.new.frontend.inner c.asks_features-features.new.frontend.inner c.asks_config-config.result c.asks_features-features.result
    (c.empty.ensures tt) refl c.set_profile.ensures.endpoint c.set_profile.ensures.session c.asks_config-config.ensures c.asks_features-features.ensures
