use Rattle.std.proofs.Common.{◌+◌, ◌≤◌, arith, length}
use Rattle.vhost_c_backend.proofs.Placing.{writes-next}
use Rattle.vhost_c_backend.proofs.regions.put_each.Goals as goal

pub regions-preserved : goal.regions-preserved
regions-preserved c =
    let within : c.regions.i + 1 ≤ length c.args.regions.now = omega arith in
    (within, writes-next c.args.regions.now c.args.handles.now c.args.places.now c.regions.places c.regions.i _ c.placed_at.result c.regions-test.true c.requires c.regions.invariant.1 c.placed_at.ensures)
