-- The regions of a table.
use Rattle.std.proofs.Common.{◌∙◌, arith, length-set}
use Rattle.vhost_frontend_core.specs.Regions.{info_in, table_in}
use Rattle.vhost_frontend_core.proofs.Tables.{regions-more}
use Rattle.vhost_frontend_core.proofs.regions.table_of.Goals as goal

pub regions-preserved : goal.regions-preserved
regions-preserved g c =
    let i = c.regions.i in
    let so_far = c.regions.invariant in (
      length-set c.regions.table i c.to_region.result ∙ so_far.0,
      regions-more (table_in c.args.regions.now) i (info_in c.at.result) (omega (arith, c.len-i-end.ensures)) c.at.ensures c.regions.table c.to_region.result (omega (arith, so_far.0, c.len-i-end.ensures, c.requires)) so_far.1
          c.to_region.ensures,
    )
