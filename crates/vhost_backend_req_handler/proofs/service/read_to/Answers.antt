-- The regions are the first in their places.
use Rattle.std.proofs.Common.{◌≡◌, ◌∙◌, ap, sym, length, arith}
use Rattle.std.proofs.lemmas.List.{take_all, take-append-le}
use Rattle.vhost_backend_req_handler.proofs.service.read_to.Goals as goal

pub returns-clause-regions : goal.returns-clause-regions
returns-clause-regions c =
    let count : c.args.table.now.count ≡ length c.read.new.regions = sym c.len.ensures.count ∙ c.len.ensures.len ∙ sym (ap (λ rs. length rs) c.read.ensures) in
    take-append-le c.args.table.now.count c.read.new.regions _ (omega (arith, count)) ∙ take_all c.args.table.now.count c.read.new.regions (omega (arith, count)) ∙ c.read.ensures
