use Rattle.std.proofs.Common.{◌++◌, length, arith, ap, ◌∙◌}
use Rattle.vhost_link.proofs.Flowing.{put-marked, put-within, some-bytes}
use Rattle.vhost_link.proofs.flow.Flow.put.Goals as goal

pub invariant_of-self-2 : goal.invariant_of-self-2
invariant_of-self-2 c =
    put-within c.self.inside.from c.len.result c.self.inside.bytes.items c.args.bytes.now c.put_bytes.new.all.items c.self.inside.marks.items c.put_mark.new.marks.items c.args.handles
    (c.put_bytes.ensures ∙ ap (λ xs. xs ++ c.args.bytes.now) c.reserve.ensures.items)
    c.in_ok-put_mark.ensures.put
    (omega (arith, c.len.ensures, c.reserve.ensures.len))
    c.self.invariant.0
    c.self.invariant.1
    (some-bytes (length c.args.bytes.now) c.is_empty.result c.is_empty.ensures c.if-is_empty.false)
    (omega (arith, c.requires))

pub returns-clause-put : goal.returns-clause-put
returns-clause-put c =
    put-marked c.self.inside.from c.len.result c.self.inside.bytes.items c.args.bytes.now c.put_bytes.new.all.items c.self.inside.marks.items c.put_mark.new.marks.items c.args.handles c.args.self.now
    (c.put_bytes.ensures ∙ ap (λ xs. xs ++ c.args.bytes.now) c.reserve.ensures.items)
    c.in_ok-put_mark.ensures.put
    (omega (arith, c.len.ensures, c.reserve.ensures.len))
    c.self.invariant.0
    c.self.invariant.1
    (some-bytes (length c.args.bytes.now) c.is_empty.result c.is_empty.ensures c.if-is_empty.false)
    (omega (arith, c.requires))
    (c.self.view_is ∙ c.restart.ensures)
