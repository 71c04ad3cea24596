-- What is on the way between two endpoints over links in memory.
use Rattle.std.specs.Prelude.{◌≡◌, List, [], ◌++◌}
use Rattle.vhost_protocol.specs.Stream.{Cell}
use Rattle.vhost_link.specs.declared.plain.PlainHandle.{PlainHandle}
use Rattle.vhost_link.specs.Ends.{Ends}
use Rattle.vhost_connection.specs.Talk.{State}

-- what an endpoint will receive: what it has heard already, and then what its link will hand out
abbrev pub incoming : State Ends PlainHandle → List (Cell PlainHandle)
incoming e = e.ahead ++ e.link.pending

-- what an endpoint has sent, and was not carried away
abbrev pub outgoing : State Ends PlainHandle → List (Cell PlainHandle)
outgoing e = e.link.sent

-- All that one side sent is behind what the other will receive, and nothing else changed.
pub record Carries (from to from_after to_after : State Ends PlainHandle) : Type 0 where
  pub sender : from_after ≡ record from { link = record from.link { sent = [] } }
  pub receiver : to_after ≡ record to { link = record to.link { pending = to.link.pending ++ from.link.sent } }
