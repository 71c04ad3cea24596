-- What stands at a place of a table, lent or kept.
use Rattle.std.proofs.Common.{◌∙◌, ap, sym, subst, ◌<◌, length, slice_index_or}
use Rattle.std.proofs.lemmas.List.{length-map}
use Rattle.vhost_frontend_core.specs.Regions.{info_in, info_of, table_in}
use Rattle.vhost_frontend_core.proofs.regions.Regions.at.Goals as goal

pub at_lent-requires : goal.at_lent-requires
at_lent-requires g c = subst (λ n. c.args.i < n) (length-map c.in-Lent.regions.now (λ x. info_in x)) (subst (λ t. c.args.i < length (table_in t)) c.in-Lent.is c.requires)

pub returns-in-Lent : goal.returns-in-Lent
returns-in-Lent g c = c.at_lent.ensures ∙ ap (λ t. slice_index_or (table_in t) c.args.i (info_in c.at_lent.result)) (sym c.in-Lent.is)

pub at_kept-requires : goal.at_kept-requires
at_kept-requires g c = subst (λ n. c.args.i < n) (length-map c.in-Kept.regions.now info_of) (subst (λ t. c.args.i < length (table_in t)) c.in-Kept.is c.requires)

pub returns-in-Kept : goal.returns-in-Kept
returns-in-Kept g c = c.at_kept.ensures ∙ ap (λ t. slice_index_or (table_in t) c.args.i (info_in c.at_kept.result)) (sym c.in-Kept.is)
