-- Profiles by their numbers in C. A library for real peers has theirs first.
use Rattle.std.specs.Prelude.{ℕ, Option, Some, None, ◌==◌, if◌then◌else◌}
use Rattle.vhost_protocol.specs.declared.profile.Profile.{Profile}
use Rattle.vhost_protocol.specs.declared.profile.Profile.TheVariants.{Vhost, Standard}

-- the profile of a number
abbrev pub profile_at : ℕ → Option Profile
profile_at n = if n == 0 then Some Standard else if n == 1 then Some Vhost else None
