-- Three requests that are served.
use Rattle.vhost_backend_req_handler.specs.Core.{endpoint_of, session_in}
use Rattle.vhost_backend_req_handler.specs.Opening.{OpensAsBackend, OpensAsGpu}
use Rattle.vhost_joined.specs.Device.{opens, kinds}
use Rattle.vhost_promises.proofs.Serving.{serves}
use Rattle.vhost_promises.proofs.served.serves_three.Goals as goal

pub returns : goal.returns
returns c =
    serves (λ h o. OpensAsBackend opens kinds (endpoint_of c.args.core.now).budget h o) (λ h o. OpensAsGpu opens kinds (endpoint_of c.args.core.now).budget h o) c.talks_law.ensures.talks (endpoint_of c.args.core.now) (endpoint_of c.serves_whole.new.core) c.args.device.now c.serves_whole.new.device (session_in c.args.core.now)
    (session_in c.serves_whole.new.core) c.serves_whole.result c.serves_whole.ensures
