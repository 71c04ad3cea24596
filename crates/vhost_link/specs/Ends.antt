-- What a link in memory holds.
use Rattle.std.specs.Prelude.{◌≡◌, ℕ, List, [], ◌++◌}
use Rattle.vhost_protocol.specs.Stream.{Cell}
use Rattle.vhost_link.specs.declared.plain.PlainHandle.{PlainHandle}
use Rattle.vhost_link.specs.declared.cut.Cut.{Cut}

pub record Ends : Type 0 where
  -- what it will hand out
  pub pending : List (Cell PlainHandle)
  -- what it took in
  pub sent : List (Cell PlainHandle)
  -- what its next calls do
  pub script : List Cut
  -- how many sends failed for want of memory
  pub wants : ℕ

-- a link that holds nothing
abbrev pub empty : List Cut → Ends
empty cuts = record { pending = []; sent = []; script = cuts; wants = 0 }

-- All that one end took in is behind what the other will hand out, and nothing else changed.
pub record Carried (from to from_after to_after : Ends) : Type 0 where
  pub given : from_after ≡ record from { sent = [] }
  pub got : to_after ≡ record to { pending = to.pending ++ from.sent }
