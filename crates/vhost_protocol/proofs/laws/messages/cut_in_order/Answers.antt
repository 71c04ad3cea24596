-- The laws of the cut, at the codes of the type.
use Rattle.vhost_protocol.specs.Split.{split}
use Rattle.vhost_protocol.proofs.SplitLaws.{split-front, message-front, end-needed}
use Rattle.vhost_protocol.proofs.TextLaws.{written-split}
use Rattle.vhost_protocol.proofs.laws.messages.cut_in_order.Goals as goal

pub returns-clause-cut : goal.returns-clause-cut
returns-clause-cut g c allows_handles = split-front g.R.Req.code allows_handles

pub returns-clause-end : goal.returns-clause-end
returns-clause-end g c allows_handles cells outcome other = end-needed (split g.R.Req.code allows_handles) cells outcome other

pub returns-clause-front : goal.returns-clause-front
returns-clause-front g c allows_handles = message-front g.R.Req.code allows_handles

pub returns-clause-read : goal.returns-clause-read
returns-clause-read g c allows_handles w rest known code wants size =
    written-split g.R.Req.code allows_handles g.R.Req.number w rest (record { known = known; code = code; allowed = wants; size = size })
