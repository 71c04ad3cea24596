use Rattle.std.proofs.Common.{length, take, ap, arith}
use Rattle.std.proofs.lemmas.List.{length-take}
use Rattle.rtrb.specs.Ring.{sent}
use Rattle.vhost_link.specs.Pieces.{waiting}
use Rattle.vhost_link.proofs.Piecing.{waiting-few}
use Rattle.vhost_link.proofs.shared.push.push_handles.Goals as goal

pub push_reserved-requires : goal.push_reserved-requires
push_reserved-requires c =
    let now = c.loop-handle.invariant in
    let few = ap (λ ps. length (waiting ps)) now.1 in
    let count = waiting-few (sent c.args.output.now) (take c.loop-handle.handle-index c.args.handles.now) in
    let part = length-take c.loop-handle.handle-index c.args.handles.now in (omega (arith, now.2, now.3, c.loop-handle-test.true), omega (arith, few, count, part, c.requires.few, c.loop-handle-test.true))
