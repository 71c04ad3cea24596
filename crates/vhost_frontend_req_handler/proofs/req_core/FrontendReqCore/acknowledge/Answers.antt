-- No number is wanted.
use Rattle.vhost_frontend_req_handler.specs.Core.{server_in}
use Rattle.vhost_frontend_req_handler.proofs.Answering.{unwanted}
use Rattle.vhost_frontend_req_handler.proofs.req_core.FrontendReqCore.acknowledge.Goals as goal

pub returns-then-not-acknowledges-clause-acknowledges : goal.returns-then-not-acknowledges-clause-acknowledges
returns-then-not-acknowledges-clause-acknowledges g c answer ready same =
    unwanted (server_in c.args.self.now) c.args.request answer ready c.acknowledges.ensures c.if-not-acknowledges.true
