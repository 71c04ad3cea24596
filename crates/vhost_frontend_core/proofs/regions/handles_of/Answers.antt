-- The handles of a table.
use Rattle.std.proofs.Common.{◌∙◌, arith, length-set, refl}
use Rattle.vhost_frontend_core.specs.Regions.{info_in, table_in}
use Rattle.vhost_frontend_core.proofs.Tables.{handles-more, handle-taken}
use Rattle.vhost_frontend_core.proofs.regions.handles_of.Goals as goal

pub regions-preserved : goal.regions-preserved
regions-preserved g c =
    let i = c.regions.i in
    let infos = table_in c.args.regions.now in
    let info = info_in c.at-region.result in
    let so_far = c.regions.invariant in (
      length-set c.regions.handles i c.unwrap_or.result ∙ so_far.0,
      handles-more infos i info (omega (arith, c.len-i-end.ensures)) c.at-region.ensures c.regions.handles c.unwrap_or.result (omega (arith, so_far.0, c.len-i-end.ensures, c.requires.few)) so_far.1
          (handle-taken infos i info (omega (arith, c.len-i-end.ensures)) c.at-region.ensures c.at-region.result.mmap_handle c.args.other c.unwrap_or.result c.requires.usable refl c.unwrap_or.ensures),
    )
