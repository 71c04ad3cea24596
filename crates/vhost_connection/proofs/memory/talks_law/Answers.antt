use Rattle.vhost_connection.proofs.Fronting.{talked}
use Rattle.vhost_connection.proofs.memory.talks_law.Goals as goal

pub returns : goal.returns
returns c = record { talks = talked c.stream_law.ensures.stream }
