use Rattle.std.proofs.Common.{rules, arith, ℤ, pos, get_or, FitsSigned, w32, to_z, of_z, ◌≡◌, inl, refl, sym, ◌∙◌}
use Rattle.std.proofs.lemmas.Int.{ints}
use Rattle.vhost_c_common.proofs.Descriptors.{negative-at}
use Rattle.vhost_c_common.proofs.records.handles_of.Goals as goal

pub returns-in_default-clause-refused : goal.returns-in_default-clause-refused
returns-in_default-clause-refused c =
    let fd : ℤ = get_or c.args.fds.now c.fds.fd-index (pos 0) in
    let fits : FitsSigned w32 fd = search rules in
    let same : to_z w32 (of_z w32 fd) ≡ fd = omega (arith, ints) in
    inl (refl, negative-at _ _ c.fds-test.true same (sym c.handle_of.ensures ∙ c.in_default.is))
