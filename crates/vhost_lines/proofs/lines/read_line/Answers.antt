use Rattle.std.proofs.Common.{arith, ◌≡◌, ◌-◌, ◌<◌, length, Some, sym, ◌∙◌, refl, ap, vec_len}
use Rattle.std.specs.List.{slice_get}
use Rattle.std.proofs.lemmas.Option.{get_or_from_slice_get}
use Rattle.vhost_lines.proofs.LineLaws.{last-equal, last-unequal, gives-ended, gives-last}
use Rattle.vhost_lines.proofs.lines.read_line.Goals as goal

pub returns-then-eq : goal.returns-then-eq
returns-then-eq g c =
    let read = c.in_ok-read_until.ensures {u = tt} in
    let got = c.read_until.new.buf in
    let some : 0 < vec_len got = omega (arith, read.ok, c.if-branch-eq0.false) in
    let last : slice_get got.items (vec_len got - 1) ≡ Some 10 =
    rw got.ok.0 (rw c.deref.ensures.value at (sym c.last.ensures.value) ∙ last-equal c.last.result _ refl (sym c.eq.ensures ∙ c.if-eq.true)) in
    let popped : c.pop.result ≡ Some 10 = c.pop.ensures.value 10 some ∙ ap Some (get_or_from_slice_get got.items (vec_len got - 1) 10 10 last) in
    gives-ended _ _ _ got.items c.pop.new.self.items c.clear.ensures.items read.bytes read.rest (rw popped at c.pop.ensures.items)

pub returns-else-eq : goal.returns-else-eq
returns-else-eq g c =
    let read = c.in_ok-read_until.ensures {u = tt} in
    let got = c.read_until.new.buf in
    let some : 0 < vec_len got = omega (arith, read.ok, c.if-branch-eq0.false) in
    let unended : slice_get got.items (length got.items - 1) ≡ Some 10 → ⊥ = λ is. last-unequal c.last.result _ refl (sym c.eq.ensures ∙ c.if-eq.false) (rw c.deref.ensures.value at c.last.ensures.value ∙ is) in
    gives-last _ _ _ got.items c.clear.ensures.items read.bytes read.rest (rw got.ok.0 at some) unended
