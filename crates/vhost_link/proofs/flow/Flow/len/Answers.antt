use Rattle.std.proofs.Common.{arith}
use Rattle.vhost_link.proofs.Flowing.{flow-length}
use Rattle.vhost_link.proofs.flow.Flow.len.Goals as goal

pub returns : goal.returns
returns c = omega (arith, c.len.ensures, flow-length c.self.inside.from c.self.inside.bytes.items c.self.inside.marks.items c.args.self.now c.self.view_is)
