use Rattle.std.proofs.Common.{◌≡◌, ◌<◌, [], length, take, arith, ◌∙◌, ap, sym, refl}
use Rattle.std.proofs.lemmas.List.{length-take}
use Rattle.std.proofs.lemmas.List.{nil_from_length}
use Rattle.rtrb.specs.Ring.{received, known_items}
use Rattle.vhost_link.specs.Pieces.{waiting}
use Rattle.vhost_link.proofs.Piecing.{waiting-bytes}
use Rattle.vhost_link.proofs.Ringing.{looked, look-again, nothing-came, handed, appended, emptied, stops-at-handles}
use Rattle.vhost_link.proofs.shared.ends.Ends.try_recv.Goals as goal

pub returns-then-ended-clause-law : goal.returns-then-ended-clause-law
returns-then-ended-clause-law c =
    let i = c.self.inside.input in
    let j = c.keep_handles.new.input in
    let l = looked i c.slots.new.self j c.self.inside.kept.items c.keep_handles.new.kept.items c.self.invariant.1 (look-again i c.is_abandoned-ended.new.self c.slots.new.self c.is_abandoned-ended.ensures c.slots.ensures.looked) c.keep_handles.ensures.ring c.keep_handles.ensures.all c.keep_handles.ensures.cells c.keep_handles.ensures.kept in
    let none : known_items j ≡ [] = nil_from_length (known_items j) (omega (arith, c.cached_slots.ensures, c.if-cached_slots-eq0.true)) in (
      omega arith,
      refl,
      record {
        some = λ h. absurd (omega arith);
        ended = λ h. nothing-came c.self.inside.output i j c.self.inside.kept.items c.keep_handles.new.kept.items c.args.self.now c.self.view_is l none;
        none = λ h. c.requires.list;
        few = omega (arith, ap length c.requires.list);
      },
    )

pub returns-then-cached_slots-eq0-clause-law : goal.returns-then-cached_slots-eq0-clause-law
returns-then-cached_slots-eq0-clause-law c =
    let i = c.self.inside.input in
    let j = c.keep_handles.new.input in
    let l = looked i c.slots.new.self j c.self.inside.kept.items c.keep_handles.new.kept.items c.self.invariant.1 (look-again i c.is_abandoned-ended.new.self c.slots.new.self c.is_abandoned-ended.ensures c.slots.ensures.looked) c.keep_handles.ensures.ring c.keep_handles.ensures.all c.keep_handles.ensures.cells c.keep_handles.ensures.kept in
    let none = nothing-came c.self.inside.output i j c.self.inside.kept.items c.keep_handles.new.kept.items c.args.self.now c.self.view_is l (nil_from_length (known_items j) (omega (arith, c.cached_slots.ensures, c.if-cached_slots-eq0.true))) in (
      none.0,
      none.1,
      refl,
      c.requires.list,
    )

pub invariant_of-self-2 : goal.invariant_of-self-2
invariant_of-self-2 c =
    let n = c.take_bytes.result in
    let bytes = take n c.take_bytes.new.room in
    let kept = c.keep_handles.new.kept in
    let some : 0 < n = c.take_bytes.ensures.some c.requires.room (omega (arith, c.cached_slots.ensures, c.if-cached_slots-eq0.false)) c.keep_handles.ensures.front in
    let ok = c.append.ensures.succeeds (omega (arith, c.args.handles.now.ok, kept.ok, ap length c.requires.list, c.requires.places, c.keep_handles.ensures.few)) in
    let left : c.append.new.other.items ≡ [] = emptied c.append.result c.append.new.other.items kept.items ok c.append.ensures.other_items in (
      c.self.invariant.0,
      left ∙ sym (ap waiting c.take_bytes.ensures.received ∙ waiting-bytes (received c.keep_handles.new.input) bytes (omega (arith, some, length-take n c.take_bytes.new.room, c.take_bytes.ensures.within, c.take_bytes.auto.room))),
      omega (arith, ap length left),
      omega (arith, c.append.ensures.other_capacity, c.keep_handles.ensures.places, c.self.invariant.3),
    )

pub returns-clause-law : goal.returns-clause-law
returns-clause-law c =
    let i = c.self.inside.input in
    let j = c.keep_handles.new.input in
    let k = c.take_bytes.new.input in
    let kept = c.keep_handles.new.kept in
    let n = c.take_bytes.result in
    let bytes = take n c.take_bytes.new.room in
    let some : 0 < n = c.take_bytes.ensures.some c.requires.room (omega (arith, c.cached_slots.ensures, c.if-cached_slots-eq0.false)) c.keep_handles.ensures.front in
    let pos : 0 < length bytes = omega (arith, some, length-take n c.take_bytes.new.room, c.take_bytes.ensures.within, c.take_bytes.auto.room) in
    let ok = c.append.ensures.succeeds (omega (arith, c.args.handles.now.ok, kept.ok, ap length c.requires.list, c.requires.places, c.keep_handles.ensures.few)) in
    let left : c.append.new.other.items ≡ [] = emptied c.append.result c.append.new.other.items kept.items ok c.append.ensures.other_items in
    let got : c.append.new.self.items ≡ kept.items = appended c.append.result c.append.new.self.items c.args.handles.now.items kept.items ok c.requires.list c.append.ensures.items in
    let l = looked i c.slots.new.self j c.self.inside.kept.items kept.items c.self.invariant.1 (look-again i c.is_abandoned-ended.new.self c.slots.new.self c.is_abandoned-ended.ensures c.slots.ensures.looked) c.keep_handles.ensures.ring c.keep_handles.ensures.all c.keep_handles.ensures.cells c.keep_handles.ensures.kept in
    let out = handed c.self.inside.output i j k c.self.inside.kept.items kept.items c.args.self.now bytes c.self.view_is l pos c.take_bytes.ensures.ring c.take_bytes.ensures.received c.take_bytes.ensures.known in (
      c.take_bytes.ensures.within,
      c.take_bytes.ensures.rest,
      record {
        some = λ h. rw (got, left) out;
        ended = λ z. absurd (omega (arith, some));
        none = λ z. absurd (omega (arith, some));
        few = omega (arith, ap length got, c.keep_handles.ensures.few);
      },
    )

pub returns-clause-fills : goal.returns-clause-fills
returns-clause-fills c =
    let kept = c.keep_handles.new.kept in
    let ok = c.append.ensures.succeeds (omega (arith, c.args.handles.now.ok, kept.ok, ap length c.requires.list, c.requires.places, c.keep_handles.ensures.few)) in
    let left : c.append.new.other.items ≡ [] = emptied c.append.result c.append.new.other.items kept.items ok c.append.ensures.other_items in λ less. stops-at-handles c.append.new.other.items (known_items c.take_bytes.new.input) left (c.take_bytes.ensures.most less)
