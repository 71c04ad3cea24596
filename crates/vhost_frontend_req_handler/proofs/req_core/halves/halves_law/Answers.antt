-- What both halves make together.
use Rattle.vhost_frontend_req_handler.proofs.BothHalves.{halves_refuse, halves_serve}
use Rattle.vhost_frontend_req_handler.proofs.req_core.halves.halves_law.Goals as goal

pub returns-clause-served : goal.returns-clause-served
returns-clause-served g c = halves_serve g.L.Link.event g.D.VhostUserFrontendReqHandlerMut.gives

pub returns-clause-refused : goal.returns-clause-refused
returns-clause-refused g c = halves_refuse g.L.Link.event g.D.VhostUserFrontendReqHandlerMut.gives
