use Rattle.std.proofs.Common.{◌≡◌, false, refl, sym, arith}
use Rattle.vhost_queue.proofs.Passing.{passes, some-left}
use Rattle.vhost_queue.specs.Chain.{following}
use Rattle.vhost_queue.specs.Segment.{is_indirect}
use Rattle.vhost_queue.proofs.chain.DescriptorChain.pass.Goals as goal

pub returns-clause-some : goal.returns-clause-some
returns-clause-some c =
    let is = c.in-Some.ensures in let direct : is_indirect c.args.descriptor.flags ≡ false = rw c.if-flags-ne0.false refl in
    passes c.args.memory.now.regions.items (following c.args.self.now) c.args.descriptor c.in-Ok.next c.in-Some.segment c.if-is_none.ensures (sym c.if-is_some.ensures) direct (sym c.in-Ok.ensures.exact) is.exact is.whole

pub returns-clause-goes_on : goal.returns-clause-goes_on
returns-clause-goes_on c =
    let is = c.in-Some.ensures in let some = some-left c.args.self.now.next c.args.self.now.left c.if-is_none.ensures c.args.self.now.some in
    (is.inside, is.ordered, sym is.writable, omega arith, refl, refl)
