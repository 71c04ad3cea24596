use Rattle.bitflags.specs.Sets.{known_from}
use Rattle.std.proofs.Common.{◌∙◌, ap}
use Rattle.vhost_lines.specs.Arguments.{◌>>=◌, within}
use Rattle.vhost_lines.proofs.ArgumentLaws.{within-known}
use Rattle.vhost_lines.proofs.call_words.argument.protocol_features.Goals as goal

pub returns : goal.returns
unfolding known_from
returns c =
    within-known (λ f. f.bits) c.from_bits.result c.in_ok-number.field-0 0x7f_ffff (c.from_bits.ensures.value tt) (c.from_bits.ensures.known tt)
    ∙ ap (λ n. n >>= within 0x7f_ffff) (c.in_ok-number.ensures {u = tt})
