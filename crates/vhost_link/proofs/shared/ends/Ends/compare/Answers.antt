use Rattle.std.proofs.Common.{arith}
use Rattle.vhost_link.proofs.Ringing.{compared}
use Rattle.vhost_link.proofs.shared.ends.Ends.compare.Goals as goal

pub returns : goal.returns
returns c =
    let kept = c.self.inside.kept in
    compared c.self.inside.output c.self.inside.input c.slots_after.new.self kept.items c.args.self.now c.into_finished-finished.result c.args.token _ _ c.self.view_is c.into_finished-finished.ensures.value c.into_finished-finished.ensures.whole c.self.invariant.1 c.slots_after.ensures.looked
    c.slots_after.ensures.fifo
    (omega (arith, c.len.ensures, kept.ok))
    c.slots_after.ensures.value
