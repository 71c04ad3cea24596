use Rattle.std.proofs.Common.{◌+◌, drop, length, arith, sym, ap, refl, ◌∙◌}
use Rattle.std.proofs.lemmas.List.{length-drop}
use Rattle.vhost_protocol.specs.Stream.{first_handles}
use Rattle.vhost_link.proofs.Flowing.{flow-length}
use Rattle.vhost_link.proofs.Moving.{found-marked, found-few}
use Rattle.vhost_link.proofs.flow.Flow.handles.Goals as goal

pub overflow_add-self-inside : goal.overflow_add-self-inside
overflow_add-self-inside c = omega (arith, c.len.ensures, flow-length c.self.inside.from c.self.inside.bytes.items c.self.inside.marks.items c.args.self.now c.self.view_is)

pub returns-clause-handles : goal.returns-clause-handles
returns-clause-handles c =
    c.find_handles.ensures
    ∙ sym (found-marked c.self.inside.from (c.self.inside.from + c.args.index) (length c.self.inside.bytes.items) c.args.index (drop c.self.inside.from c.self.inside.bytes.items) c.self.inside.marks.items refl (omega (arith, c.len.ensures, length-drop c.self.inside.from c.self.inside.bytes.items, flow-length c.self.inside.from c.self.inside.bytes.items c.self.inside.marks.items c.args.self.now c.self.view_is)) c.self.invariant.1)
    ∙ ap (λ cells. first_handles (drop c.args.index cells)) c.self.view_is

pub returns-clause-few : goal.returns-clause-few
returns-clause-few c = rw c.find_handles.ensures (found-few _ c.self.inside.from (length c.self.inside.bytes.items) c.self.inside.marks.items c.self.invariant.1)
