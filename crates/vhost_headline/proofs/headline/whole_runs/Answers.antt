-- So many calls, as far as they were served.
use Rattle.vhost_backend_req_handler.specs.Core.{endpoint_of, session_in}
use Rattle.vhost_backend_req_handler.specs.Opening.{OpensAsBackend, OpensAsGpu}
use Rattle.vhost_device.specs.Reached.{by_trait}
use Rattle.vhost_headline.proofs.Running.{as-served}
use Rattle.vhost_headline.proofs.headline.whole_runs.Goals as goal

pub returns : goal.returns
returns g c =
    as-served g.L.Link.event (by_trait g.D.VhostUserBackendReqHandlerMut.gives)
    (λ h o. OpensAsBackend g.L.Link.opens g.L.Handle.Handle.kinds (endpoint_of c.args.core.now).budget h o) (λ h o. OpensAsGpu g.L.Link.opens g.L.Handle.Handle.kinds (endpoint_of c.args.core.now).budget h o)
    (endpoint_of c.args.core.now) (session_in c.args.core.now) c.args.device.now c.args.count _ _ (endpoint_of c.run.new.self) (session_in c.run.new.self) c.run.new.device
    c.in_ok-run.ensures.run c.new-answers.ensures.items
