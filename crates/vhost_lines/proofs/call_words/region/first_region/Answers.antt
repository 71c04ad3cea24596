use Rattle.std.proofs.Common.{◌≡◌, ◌∷◌, ap, ◌∙◌}
use Rattle.vhost_frontend_core.specs.Regions.{info_of}
use Rattle.vhost_lines.specs.Read.{words_of}
use Rattle.vhost_lines.specs.Words.{words}
use Rattle.vhost_lines.proofs.RegionLaws.{regions-first}
use Rattle.vhost_lines.proofs.call_words.region.first_region.Goals as goal

pub returns-clause-regions : goal.returns-clause-regions
returns-clause-regions c =
    let guest = c.first_word.result.0.now in
    let size = c.first_word-2.result.0.now in
    let user = c.first_word-3.result.0.now in
    let offset = c.first_word-4.result.0.now in
    let mapping = c.first_word-5.result.0.now in
    let later = words_of c.first_word-5.result.1 in
    let five : words c.args.text.now ≡ guest ∷ size ∷ user ∷ offset ∷ mapping ∷ later =
    c.first_word.ensures
    ∙ ap (λ behind. guest ∷ behind) (ap words_of c.in_ok-rest.was ∙ (c.first_word-2.ensures
    ∙ ap (λ behind. size ∷ behind) (ap words_of c.in_ok-rest-2.was ∙ (c.first_word-3.ensures
    ∙ ap (λ behind. user ∷ behind) (ap words_of c.in_ok-rest-3.was ∙ (c.first_word-4.ensures
    ∙ ap (λ behind. offset ∷ behind) (ap words_of c.in_ok-rest-4.was ∙ c.first_word-5.ensures))))))) in
    regions-first guest size user offset mapping later (words c.args.text.now) (info_of c.in_ok-region.field-0) five (c.in_ok-region.ensures {u = tt})
