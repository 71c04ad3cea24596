-- A fault of a call's request or of its reply.
use Rattle.vhost_frontend_core.specs.Values.{call_of}
use Rattle.vhost_promises.proofs.FaultingCalled.{met-answered, met-unsent}
use Rattle.vhost_promises.proofs.faults_calling.meets_fault_calling.Goals as goal

pub returns-in-Ok-Some-clause-met : goal.returns-in-Ok-Some-clause-met
returns-in-Ok-Some-clause-met c sound =
    met-answered (call_of c.args.call.now) c.args.frontend.now sound c.in-Ok-Some.field-0 c.in-Ok-Some.sent c.ask.new.frontend c.take.result c.take.new.frontend c.in-Ok-Some.field-0-is c.in-Ok-Some.ensures.asked c.in-Ok-Some.ensures.kept
    c.take.ensures

pub returns-in-Err-clause-met : goal.returns-in-Err-clause-met
returns-in-Err-clause-met c sound = met-unsent (call_of c.args.call.now) c.args.frontend.now sound c.in-Err.error c.ask.new.frontend c.in-Err.ensures.asked
