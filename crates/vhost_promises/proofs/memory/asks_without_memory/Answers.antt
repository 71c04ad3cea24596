-- An ask by value that wants no memory.
use Rattle.vhost_frontend_core.specs.Values.{call_of}
use Rattle.vhost_promises.proofs.WithoutMemory.{asked-without}
use Rattle.vhost_promises.proofs.memory.asks_without_memory.Goals as goal

pub returns : goal.returns
returns c bare listed = asked-without (call_of c.args.call.now) c.args.frontend.now c.ask.new.frontend c.ask.result c.ask.ensures.memory bare listed
