use Rattle.std.proofs.Common.{map, ap, sym, ◌∙◌}
use Rattle.vhost_frontend_core.specs.Regions.{info_of}
use Rattle.vhost_lines.specs.Calls.{regions}
use Rattle.vhost_lines.specs.Read.{words_of}
use Rattle.vhost_lines.specs.Words.{words}
use Rattle.vhost_lines.proofs.RegionLaws.{behind, regions-next}
use Rattle.vhost_lines.proofs.call_words.buffered.regions.Goals as goal

pub loop-rest-preserved : goal.loop-rest-preserved
loop-rest-preserved c =
    let found = c.loop-rest.found.items in
    rw (c.in_ok-push.ensures {u = tt}).items
    (regions-next found c.in-Some-first_region.info (words c.in-Some.text.now) (words_of c.in-Some-first_region.behind) (c.in-Some-first_region.ensures {u = tt}).regions
    ∙ (ap (λ rest. behind (map info_of found) (regions (words_of rest))) (sym c.in-Some.is) ∙ c.loop-rest.invariant))
