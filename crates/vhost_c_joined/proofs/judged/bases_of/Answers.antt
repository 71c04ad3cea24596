-- One more is read.
use Rattle.std.proofs.Common.{◌<◌, length, drop, take, ◌-◌, sym, ◌∙◌, arith}
use Rattle.std.proofs.lemmas.List.{length-set}
use Rattle.vhost_c_joined.proofs.Mapped.{none-told, one-more}
use Rattle.vhost_c_joined.proofs.judged.bases_of.Goals as goal

pub returns-then-reply-lt20-clause-bases : goal.returns-then-reply-lt20-clause-bases
returns-then-reply-lt20-clause-bases c = sym (none-told c.args.reply.now c.if-reply-lt20.true)

pub regions-preserved : goal.regions-preserved
regions-preserved c =
    let within : c.regions.i < length c.regions.places = omega (arith, c.regions.invariant.0, c.regions-test.true, c.min-count.ensures) in (
      length-set c.regions.places c.regions.i c.read_region.result.user_addr ∙ c.regions.invariant.0,
      one-more c.regions.i c.regions.places (take (length c.args.reply.now - 20) (drop 20 c.args.reply.now)) c.read_region.result within c.read_region.ensures.read c.regions.invariant.1,
    )
