-- The law of replies, at the numbers of the type.
use Rattle.vhost_protocol.proofs.ReplyLaws.{reply-read}
use Rattle.vhost_protocol.proofs.laws.replies.read_as_written.Goals as goal

pub returns : goal.returns
returns g c = record { read = reply-read g.R.Req.number }
