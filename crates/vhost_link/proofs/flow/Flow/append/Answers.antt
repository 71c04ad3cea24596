use Rattle.std.proofs.Common.{◌+◌, ◌-◌, ◌^◌, ◌++◌, length, drop, map, arith, ap, ◌∙◌}
use Rattle.std.proofs.lemmas.List.{length-take, length-drop}
use Rattle.vhost_link.specs.Marks.{marked, moved}
use Rattle.vhost_link.proofs.Marking.{Within-wider}
use Rattle.vhost_link.proofs.Flowing.{append-marked, append-within, flow-length, slice-whole}
use Rattle.vhost_link.proofs.flow.Flow.append.Goals as goal

pub move_marks-requires-clause-places : goal.move_marks-requires-clause-places
move_marks-requires-clause-places c =
    let all = c.other.inside.bytes.items in
    let from = c.other.inside.from in
    let left = flow-length from all c.other.inside.marks.items c.args.other.now c.other.view_is in
    Within-wider from from (length all) (from + (2 ^ 63 - c.len-to.result)) c.other.inside.marks.items (omega arith)
    (omega (arith, left, c.other.invariant.0, c.len.ensures, c.len-to.ensures, c.in_ok-reserve.ensures.ok, c.reserve.new.self.small)) c.other.invariant.1

pub put_bytes-requires : goal.put_bytes-requires
put_bytes-requires c =
    let all = c.deref.result.now in
    let from = c.other.inside.from in
    let left = flow-length from c.other.inside.bytes.items c.other.inside.marks.items c.args.other.now c.other.view_is in
    omega (arith, left, ap length c.deref.ensures.value, length-drop from all, length-take (length all - from) (drop from all), c.len.ensures, c.in_ok-reserve.ensures.ok)

pub invariant_of-self-2 : goal.invariant_of-self-2
invariant_of-self-2 c =
    let from = c.other.inside.from in
    append-within c.self.inside.from c.len-to.result from c.self.inside.bytes.items c.other.inside.bytes.items c.put_bytes.new.all.items c.self.inside.marks.items c.other.inside.marks.items c.move_marks.new.out.items
    (c.put_bytes.ensures ∙ ap (λ xs. c.reserve.new.self.items ++ xs) (slice-whole from c.deref.result.now ∙ ap (drop from) c.deref.ensures.value) ∙ ap (λ xs. xs ++ drop from c.other.inside.bytes.items) c.reserve.ensures.items)
    (c.move_marks.ensures.moved ∙ ap (λ xs. xs ++ map (moved from c.len-to.result) c.other.inside.marks.items) c.reserve-2.ensures.items)
    (omega (arith, c.len-to.ensures, c.reserve.ensures.len))
    c.self.invariant.0
    c.other.invariant.0
    c.self.invariant.1
    c.other.invariant.1

pub returns-clause-appended : goal.returns-clause-appended
returns-clause-appended c =
    let from = c.other.inside.from in (
      append-marked c.self.inside.from c.len-to.result from c.self.inside.bytes.items c.other.inside.bytes.items c.put_bytes.new.all.items c.self.inside.marks.items c.other.inside.marks.items c.move_marks.new.out.items c.args.self.now c.args.other.now
          (c.put_bytes.ensures ∙ ap (λ xs. c.reserve.new.self.items ++ xs) (slice-whole from c.deref.result.now ∙ ap (drop from) c.deref.ensures.value) ∙ ap (λ xs. xs ++ drop from c.other.inside.bytes.items) c.reserve.ensures.items)
          (c.move_marks.ensures.moved ∙ ap (λ xs. xs ++ map (moved from c.len-to.result) c.other.inside.marks.items) c.reserve-2.ensures.items)
          (omega (arith, c.len-to.ensures, c.reserve.ensures.len))
          c.self.invariant.0
          c.other.invariant.0
          c.self.invariant.1
          c.other.invariant.1
          c.self.view_is
          c.other.view_is,
      ap (λ xs. marked 0 xs c.move_marks.new.marks.items) c.clear.ensures.items,
    )
