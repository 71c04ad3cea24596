use Rattle.vhost_link.proofs.MemStream.{mem-stream}
use Rattle.vhost_link.proofs.MemUse.{gives-alone}
use Rattle.vhost_link.proofs.mem.stream_law.Goals as goal

pub returns-clause-stream : goal.returns-clause-stream
returns-clause-stream c = mem-stream

pub returns-clause-gives : goal.returns-clause-gives
returns-clause-gives c = λ old new m p g. gives-alone old new m (mem-stream old new m p) g
