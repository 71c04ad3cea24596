-- An endpoint over a link in memory.
use Rattle.std.specs.Prelude.{◌≡◌, List, ◌++◌}
use Rattle.vhost_protocol.specs.Stream.{Cell}
use Rattle.vhost_link.specs.Ends.{Ends}
use Rattle.vhost_link.specs.Law.{Move}
use Rattle.vhost_link.specs.Mem.{event, HandsFront}
use Rattle.vhost_link.specs.declared.plain.PlainHandle.{PlainHandle}
use Rattle.vhost_connection.specs.Talk.{State, Talks}

-- all that it has still to hand on: what it has heard ahead, and what its link will hand out
abbrev pub stream : State Ends PlainHandle → List (Cell PlainHandle)
stream s = s.ahead ++ s.link.pending

-- However its link is cut, it hands on its stream in order, and its link appends what it takes in.
abbrev pub TalksLaw : Type 0
TalksLaw = (old new : State Ends PlainHandle) (m : Move PlainHandle) → Talks event old m new → HandsFront (stream old) m.handed (stream new) × (new.link.sent ≡ old.link.sent ++ m.taken)
