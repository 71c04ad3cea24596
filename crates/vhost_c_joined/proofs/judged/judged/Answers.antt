-- It was given the request, which was served, and what it wrote is compared.
use Rattle.vhost_protocol.specs.Joined.{read_as}
use Rattle.vhost_c_joined.proofs.Serving.{judged-so, unserved-so}
use Rattle.vhost_c_joined.proofs.judged.judged.Goals as goal

pub returns-in-Ok-serve_as : goal.returns-in-Ok-serve_as
returns-in-Ok-serve_as c w req =
    let g = c.in-Ok.ensures w req in
    judged-so (read_as w) c.args.exchange.reply.now c.args.exchange.reply_fds.now c.args.judge.now c.give.new.judge c.serve_as.new.judge c.writes.new.judge c.writes.result g.1 (c.in-Ok-serve_as.ensures (read_as w) g.0) c.writes.ensures

pub returns-in-Err-serve_as : goal.returns-in-Err-serve_as
returns-in-Err-serve_as c w req =
    let g = c.in-Ok.ensures w req in
    unserved-so (read_as w) c.args.exchange.reply.now c.args.exchange.reply_fds.now c.args.judge.now c.give.new.judge c.serve_as.new.judge c.serve_as.new.judge c.in-Err-serve_as.halt (c.in-Err-serve_as.ensures (read_as w) g.0)
