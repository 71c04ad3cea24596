use Rattle.std.proofs.Common.{rules, arith, ◌≡◌, ℤ, List, get_or, w32, sym, ap, ◌∙◌}
use mir.Val.{SFits}
use Rattle.std.proofs.lemmas.Int.{to_z-of_z}
use Rattle.std.specs.List.{remove}
use Rattle.vhost_c_common.specs.declared.held.Held.{Held}
use Rattle.vhost_c_common.proofs.Claiming.{loses, same-bits, is-none}
use Rattle.vhost_c_common.proofs.held.Held.claim.Goals as goal

pub returns-then-index-fd : goal.returns-then-index-fd
returns-then-index-fd c =
    let got : SFits w32 c.index.result.now = search rules in
    let is = same-bits c.index.result.now c.args.fd got c.ranges.fd c.if-index-fd.true in
    let same : c.own.self.own.items ≡ c.args.self.now.own.items = ap {A = Held} (λ h. h.own.items) c.own.invariant.same in
    record {
      own = loses c.args.self.now.own.items c.remove.new.self.items c.own.i c.args.fd (omega (arith, c.own-test.true, c.len-i-end.ensures))
          (ap (λ xs. get_or xs c.own.i c.args.fd) (sym same) ∙ ap (λ d. get_or c.own.self.own.items c.own.i d) (sym is) ∙ sym c.index.ensures ∙ is)
          (c.remove.ensures.items ∙ ap (λ (xs : List ℤ). remove xs c.own.i) same);
      loose = ap {A = Held} (λ h. h.loose.items) c.own.invariant.same;
    }

pub returns : goal.returns
returns c = (
  is-none c.args.self.now.own.items c.args.fd (λ k d within is. c.own.invariant.others k d (omega (arith, within, c.own-test.false, c.len-i-end.ensures)) (is ∙ sym (to_z-of_z w32 c.args.fd c.ranges.fd))),
  c.own.invariant.same,
)
