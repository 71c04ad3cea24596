-- Whether all regions of a table are usable.
use Rattle.std.proofs.Common.{◌∙◌, sym, ap, arith}
use Rattle.std.specs.List.{list_all}
use Rattle.std.proofs.lemmas.List.{take_all}
use Rattle.std.proofs.lemmas.List.Folds.{list_all_at}
use Rattle.vhost_protocol.specs.Ask.{is_usable}
use Rattle.vhost_frontend_core.specs.Regions.{info_in, table_in}
use Rattle.vhost_frontend_core.proofs.regions.are_usable.Goals as goal

pub returns-then-not-is_usable : goal.returns-then-not-is_usable
returns-then-not-is_usable g c =
    sym (list_all_at is_usable (table_in c.args.regions.now) c.regions.i (info_in c.at.result) (omega (arith, c.len-i-end.ensures))
    (ap is_usable (sym c.at.ensures) ∙ sym c.is_usable.ensures ∙ c.if-not-is_usable.true))

pub returns : goal.returns
returns g c = sym (sym (ap (list_all is_usable) (take_all c.regions.i (table_in c.args.regions.now) (omega (arith, c.len-i-end.ensures)))) ∙ c.regions.invariant)
