use Rattle.vhost_link.proofs.RingStream.{ring-stream}
use Rattle.vhost_link.proofs.shared.ring_law.Goals as goal

pub returns : goal.returns
returns c = ring-stream
