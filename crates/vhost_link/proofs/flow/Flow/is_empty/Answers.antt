use Rattle.std.proofs.Common.{length, arith}
use Rattle.std.proofs.lemmas.Bool.{cases_eq}
use Rattle.vhost_link.proofs.Flowing.{flow-length, gone}
use Rattle.vhost_link.proofs.flow.Flow.is_empty.Goals as goal

pub returns : goal.returns
returns c =
    let left = flow-length c.self.inside.from c.self.inside.bytes.items c.self.inside.marks.items c.args.self.now c.self.view_is in
    gone c.self.inside.from c.len.result (length c.args.self.now) (omega (arith, c.len.ensures, c.self.invariant.0)) (omega (arith, c.len.ensures, left)) (cases_eq c.self.inside.from c.len.result)
