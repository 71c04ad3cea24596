-- How contracts see an endpoint.
use Rattle.std.specs.Prelude.{ℕ, List, [], Option, Some, None, true, false, is_some}
use Rattle.vhost_message.specs.declared.cause.IoCause.{IoCause}
use Rattle.vhost_protocol.specs.Stream.{Cell, plain}
use Rattle.vhost_connection.specs.declared.endpoint.Endpoint.{Endpoint}
use Rattle.vhost_connection.specs.Ahead.{waiting}
use Rattle.vhost_connection.specs.Talk.{State}

-- what the endpoint has heard of its link, and not handed on yet
unfoldable pub ahead_of : {M L H : Type 0} → Endpoint M L H → List (Cell H)
ahead_of e = plain (waiting e.source.ahead)

abbrev pub state : {M L H : Type 0} → Endpoint M L H → State L H
state e = record { link = e.source.link; ahead = ahead_of e; budget = e.budget; left = e.left; broken = e.broken; list = is_some e.list; faulted = e.faulted }

-- an endpoint that has not sent or received yet
abbrev pub fresh : {L H : Type 0} → L → ℕ → State L H
fresh link budget = record { link = link; ahead = []; budget = budget; left = budget; broken = None; list = true; faulted = false }

-- the endpoint over another link
abbrev pub with_link : {M L H : Type 0} → Endpoint M L H → L → Endpoint M L H
with_link e link = record e { source = record e.source { link = link } }

-- the cause that broke an endpoint first
abbrev pub first_cause : Option IoCause → IoCause → Option IoCause
first_cause None c = Some c
first_cause (Some b) c = Some b
