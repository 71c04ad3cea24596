-- The numbers of sets of flags.
use Rattle.std.specs.Prelude.{ℕ}
use Rattle.vhost_message.specs.declared.flags.config.VhostUserConfigFlags.{VhostUserConfigFlags}
use Rattle.vhost_message.specs.declared.flags.ring.VhostUserVringAddrFlags.{VhostUserVringAddrFlags}

-- the bits of a set of flags of configuration space
abbrev pub config_bits : VhostUserConfigFlags → ℕ
config_bits f = f.bits

-- the bits of a set of flags of a ring's addresses
abbrev pub vring_addr_bits : VhostUserVringAddrFlags → ℕ
vring_addr_bits f = f.bits
