-- Whose behaviour a side has: that of the crate `vhost`, or that of the specification and of real peers.
use Rattle.std.specs.Prelude.{Bool, true, false}
use Rattle.vhost_protocol.specs.declared.profile.Profile.{Profile}
use Rattle.vhost_protocol.specs.declared.profile.Profile.TheVariants.{Vhost, Standard}

-- the specification's, and that of real peers
abbrev pub is_standard : Profile → Bool
is_standard Vhost = false
is_standard Standard = true
