-- What goes between an endpoint and its caller.
use Rattle.std.specs.Prelude.{◌≡◌, ℕ, List, [], ◌++◌}
use Rattle.vhost_protocol.specs.Stream.{Cell, carrying}
use Rattle.vhost_link.specs.Ends.{Ends}
use Rattle.vhost_link.specs.declared.plain.PlainHandle.{PlainHandle}
use Rattle.vhost_connection.specs.Memory.{stream}
use Rattle.vhost_connection.specs.Talk.{State}

-- an endpoint for which nothing came
abbrev pub emptied : State Ends PlainHandle → State Ends PlainHandle
emptied e = record e { link = record e.link { pending = [] }; ahead = [] }

-- These came behind all that an endpoint has still to hand on, and nothing else changed.
pub record Gives (handles : List PlainHandle) (bytes : List ℕ) (old new : State Ends PlainHandle) : Type 0 where
  pub came : stream new ≡ stream old ++ carrying handles bytes
  pub rest : emptied new ≡ emptied old

-- What an endpoint sent is behind what is to be sent, and nothing else changed.
pub record Collects (old new : State Ends PlainHandle) (before after : List (Cell PlainHandle)) : Type 0 where
  pub given : new ≡ record old { link = record old.link { sent = [] } }
  pub got : after ≡ before ++ old.link.sent
