-- What both halves make together.
use Rattle.vhost_backend_req_handler.specs.Opening.{OpensAsBackend, OpensAsGpu}
use Rattle.vhost_backend_req_handler.proofs.BothHalves.{halves_refuse, halves_serve}
use Rattle.vhost_backend_req_handler.proofs.halves.halves_law.Goals as goal
use Rattle.vhost_device.specs.Reached.{by_trait}

pub returns-clause-served : goal.returns-clause-served
returns-clause-served g c budget = halves_serve g.L.Link.event (by_trait g.D.VhostUserBackendReqHandlerMut.gives) (λ h o. OpensAsBackend g.L.Link.opens g.L.Handle.Handle.kinds budget h o) (λ h o. OpensAsGpu g.L.Link.opens g.L.Handle.Handle.kinds budget h o)

pub returns-clause-refused : goal.returns-clause-refused
returns-clause-refused g c budget = halves_refuse g.L.Link.event (by_trait g.D.VhostUserBackendReqHandlerMut.gives) (λ h o. OpensAsBackend g.L.Link.opens g.L.Handle.Handle.kinds budget h o) (λ h o. OpensAsGpu g.L.Link.opens g.L.Handle.Handle.kinds budget h o)
