use Rattle.std.proofs.Common.{refl, ◌∙◌}
use Rattle.bitflags.specs.Sets.{known_from}
use Rattle.vhost_message.proofs.KnownFlags.{known_below}
use Rattle.vhost_message.proofs.flags.config.VhostUserConfigFlags.is_known.Goals as goal

pub returns : goal.returns
unfolding known_from
returns c = c.is_some.ensures ∙ known_below c.from_bits.result c.args.bits 3 (c.from_bits.ensures.known tt) 2 refl
