use Rattle.std.proofs.Common.{◌∙◌, ap, sym}
use Rattle.std.proofs.lemmas.List.{get_or-map}
use Rattle.vhost_frontend_core.specs.Regions.{info_in}
use Rattle.vhost_frontend_core.proofs.regions.at_lent.Goals as goal

pub returns : goal.returns
returns g c = ap (λ x. info_in x) c.index-regions-i.is ∙ sym (get_or-map (λ x. info_in x) c.args.regions.now c.args.i c.index-regions-i.result _ c.requires)
