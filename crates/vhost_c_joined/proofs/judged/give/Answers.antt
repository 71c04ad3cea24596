-- The header comes, and then the body.
use Rattle.vhost_c_joined.proofs.Giving.{body-refused, far, head-refused, is-due, memory2}
use Rattle.vhost_c_joined.proofs.judged.give.Goals as goal
use Rattle.std.proofs.Common.{◌≤◌, length, arith}

pub returns-then-request-lt-MSG_HEADER_SIZE : goal.returns-then-request-lt-MSG_HEADER_SIZE
returns-then-request-lt-MSG_HEADER_SIZE c w req = let long : 12 ≤ length c.args.request.now = far w c.args.request.now c.args.fds.now c.args.judge.now req in omega (arith, long, c.if-request-lt-MSG_HEADER_SIZE.true)

pub returns-in-Err : goal.returns-in-Err
returns-in-Err c w req = head-refused w c.args.request.now c.args.fds.now c.args.judge.now req c.in-Err.refusal c.in-Err.ensures.reason

pub returns-in-Ok-receive : goal.returns-in-Ok-receive
returns-in-Ok-receive c w req = (
  is-due w c.args.request.now c.args.fds.now c.args.judge.now req c.receive.new.self c.in-Ok.ensures.received c.receive-2.new.self c.in-Ok-receive.ensures.received,
  memory2 w c.args.request.now c.args.fds.now c.args.judge.now req c.receive.new.self c.in-Ok.ensures.received c.receive-2.new.self c.in-Ok-receive.ensures.received,
)

pub returns-in-Err-receive : goal.returns-in-Err-receive
returns-in-Err-receive c w req = body-refused w c.args.request.now c.args.fds.now c.args.judge.now req c.receive.new.self c.in-Ok.ensures.received c.in-Err-receive.refusal c.in-Err-receive.ensures.reason
