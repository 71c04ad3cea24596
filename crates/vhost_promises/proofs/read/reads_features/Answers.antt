-- What the definitions make of the reply is the answer.
use Rattle.vhost_promises.proofs.Reading.{features-read}
use Rattle.vhost_promises.proofs.read.reads_features.Goals as goal

pub returns : goal.returns
returns c queues begins came sound = features-read c.talks_law.ensures.talks queues c.args.frontend.now.inner c.asks_features.result c.asks_features.new.frontend.inner begins came sound c.asks_features.ensures
