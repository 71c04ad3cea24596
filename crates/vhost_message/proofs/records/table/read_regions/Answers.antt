use Rattle.std.proofs.Common.{◌++◌, ◌∷◌, [], sym, ◌∙◌, arith}
use Rattle.std.proofs.lemmas.List.{take_more_set}
use Rattle.vhost_message.proofs.Regions.{regions_of-more, valid-more}
use Rattle.vhost_message.proofs.records.table.read_regions.Goals as goal

pub regions-preserved : goal.regions-preserved
regions-preserved c =
    let i = c.regions.i in
    let more = take_more_set c.regions.regions i c.read_region-region.result (omega arith) in
    let read = c.read_region-region.ensures.read in
    let so_far = c.regions.invariant in (
      valid-more c.regions.all c.is_valid-all.result _ c.read_region-region.result _ so_far.0 c.is_valid-all.ensures more,
      more ∙ (λ j. so_far.1 j ++ read j ∷ []) ∙ sym (regions_of-more i c.args.bytes.now),
    )
