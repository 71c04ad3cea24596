-- A request that nobody serves, and one that is.
use Rattle.vhost_backend_req_handler.specs.Core.{endpoint_of, session_in}
use Rattle.vhost_backend_req_handler.specs.Opening.{OpensAsBackend, OpensAsGpu}
use Rattle.vhost_joined.specs.Device.{opens, kinds}
use Rattle.vhost_promises.proofs.Standing.{goes-on}
use Rattle.vhost_promises.proofs.standard.goes_on_unserved.Goals as goal

pub returns : goal.returns
returns c =
    goes-on (λ h o. OpensAsBackend opens kinds (endpoint_of c.set_profile.new.self).budget h o) (λ h o. OpensAsGpu opens kinds (endpoint_of c.set_profile.new.self).budget h o) c.talks_law.ensures.talks (endpoint_of c.args.core.now) (endpoint_of c.set_profile.new.self) (endpoint_of c.serves_whole.new.core) c.args.device.now c.serves_whole.new.device
    (session_in c.args.core.now) (session_in c.set_profile.new.self) (session_in c.serves_whole.new.core) c.serves_whole.result c.set_profile.ensures.endpoint c.set_profile.ensures.session c.serves_whole.ensures
