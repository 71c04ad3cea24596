use Rattle.std.proofs.Common.{◌∙◌, ap, sym}
use Rattle.std.proofs.lemmas.List.{get_or-map}
use Rattle.vhost_frontend_core.specs.Regions.{info_of}
use Rattle.vhost_frontend_core.proofs.regions.at_kept.Goals as goal

pub returns : goal.returns
returns g c = c.lent.ensures.same ∙ ap info_of c.index-regions-i.is ∙ sym (get_or-map info_of c.args.regions.now c.args.i c.index-regions-i.result _ c.requires)
