-- What the calls of a backend's session answer to C.
use Rattle.std.specs.Prelude.{ℕ, Option, Some, None, is_some, if◌then◌else◌}
use Rattle.vhost_c_backend.specs.Served.{IsNew, missing_of, remembers}
use Rattle.vhost_c_backend.specs.declared.served.Served.{Served}

-- how many bytes can be told to be missing, where there is a session
abbrev pub missing_at : Option Served → ℕ
missing_at None = 0
missing_at (Some s) = missing_of s

-- the feature that was not active when the last request was refused, where there is a session
abbrev pub inactive_at : Option Served → ℕ
inactive_at None = 0
inactive_at (Some s) = s.inactive

-- 1 where the session has ended, since it could not answer whoever waits, else 0
abbrev pub ended_at : Option Served → ℕ
ended_at None = 0
ended_at (Some s) = if is_some (remembers s).failed then 1 else 0

-- A session was opened; or there was one; or memory was refused.
pub data OpensBackend : Option Served → ℕ → Option Served → Type 0 where
  opened : {s : Served} → IsNew s → OpensBackend None 0 (Some s)
  was_open : {s : Served} → OpensBackend (Some s) 102 (Some s)
  no_room : OpensBackend None 24 None
