use Rattle.std.proofs.Common.{length, drop, arith, sym, ap, ◌∙◌}
use Rattle.std.proofs.lemmas.List.{length-drop}
use Rattle.vhost_link.proofs.Flowing.{flow-bytes, flow-length, slice-whole}
use Rattle.vhost_link.proofs.flow.Flow.bytes.Goals as goal

pub returns-clause-bytes : goal.returns-clause-bytes
returns-clause-bytes c =
    slice-whole c.self.inside.from c.deref.result.now
    ∙ ap (drop c.self.inside.from) c.deref.ensures.value
    ∙ sym (flow-bytes c.self.inside.from c.self.inside.bytes.items c.self.inside.marks.items c.args.self.now c.self.view_is)

pub returns-clause-len : goal.returns-clause-len
returns-clause-len c =
    let from = c.self.inside.from in
    let left = flow-length from c.self.inside.bytes.items c.self.inside.marks.items c.args.self.now c.self.view_is in
    omega (arith, left, ap length (slice-whole from c.deref.result.now), length-drop from c.deref.result.now, ap length c.deref.ensures.value)
