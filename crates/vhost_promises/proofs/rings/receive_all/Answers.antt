use Rattle.std.proofs.Common.{[], ◌∷◌, ◌++◌, ap, sym, ◌∙◌}
use Rattle.std.specs.Prelude.{Some}
use Rattle.vhost_promises.specs.Rings.{got_cells, part_cells}
use Rattle.vhost_promises.proofs.Carrying.{parts-more}
use Rattle.vhost_promises.proofs.rings.receive_all.Goals as goal

pub loop-i-preserved : goal.loop-i-preserved
loop-i-preserved c =
    let got = c.in_ok-part.ensures in (
      got.ring ∙ c.loop-i.invariant.0,
      got.received
          ∙ ap (λ r. c.loop-i.link.received ++ got_cells r) c.in-Some.is
          ∙ ap (λ cs. cs ++ got_cells (Some c.in-Some.part)) c.loop-i.invariant.1
          ∙ sym (parts-more c.loop-i.parts.items c.in-Some.part)
          ∙ ap (λ ps. part_cells (ps ++ c.in-Some.part ∷ [])) (sym c.reserve.ensures.items)
          ∙ ap part_cells (sym c.push_reserved.ensures.items),
    )
