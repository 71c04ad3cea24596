use Rattle.std.proofs.Common.{◌≡◌, ◌+◌, ◌-◌, ◌*◌, ◌++◌, length, sym, ap, ◌∙◌, arith}
use Rattle.std.proofs.lemmas.List.Elements.{All-more}
use Rattle.std.proofs.lemmas.Slice.{take-put_mid}
use Rattle.vhost_message.specs.RecordLaws.{RegionFits}
use Rattle.vhost_message.specs.declared.limits.TheConstants.{MEMORY_REGION_SIZE}
use Rattle.vhost_message.proofs.Regions.{text-more}
use Rattle.vhost_message.proofs.records.table.put_regions.Goals as goal

pub regions-preserved : goal.regions-preserved
regions-preserved c =
    let i = c.regions.i in
    let begin = MEMORY_REGION_SIZE * i in
    let out = c.regions.out in
    let text = c.encode_into.ensures.text in
    let so_far = c.regions.invariant in
    let room = c.regions.auto.out in
    let size : length c.encode_into.new.out ≡ MEMORY_REGION_SIZE = ap length text in
    let written = take-put_mid begin (begin + MEMORY_REGION_SIZE - begin) out c.encode_into.new.out (MEMORY_REGION_SIZE * (i + 1)) (omega arith) (omega arith) in (
      written ∙ (λ j. so_far.0 j ++ text j) ∙ sym (text-more i c.args.regions.now _ (omega arith)),
      All-more RegionFits c.args.regions.now i _ (omega arith) so_far.1 c.encode_into.ensures.fits,
    )
