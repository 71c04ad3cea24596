use Rattle.std.proofs.Common.{◌≡◌, rules, arith, ℤ, FitsSigned, w32, to_z, of_z, Ok, Err, sym, subst}
use Rattle.std.proofs.lemmas.Int.{ints}
use Rattle.vhost_c_common.proofs.ByNumber.{by-none, by-some}
use Rattle.vhost_c_channel.specs.Arguments.{fd_arg}
use Rattle.vhost_c_channel.specs.Serving.{Tells}
use Rattle.vhost_c_channel.proofs.Told.{telling, refusing}
use Rattle.vhost_c.proofs.channel_arguments.covretin_channel_call_fd.Goals as goal

pub returns-in-None-clause-does : goal.returns-in-None-clause-does
returns-in-None-clause-does c = by-none _ _ _ _ c.in-None.ensures.taken c.in-None.ensures.left c.number_of.ensures

pub returns-in-Ok-clause-does : goal.returns-in-Ok-clause-does
returns-in-Ok-clause-does c =
    let fits : FitsSigned w32 c.in-Ok.number = search rules in
    let same : to_z w32 (of_z w32 c.in-Ok.number) ≡ c.in-Ok.number = omega (arith, ints) in
    by-some _ _ _ _ c.in-Some.held.value c.in-Some.held.value (Ok tt) c.in-Some.ensures.taken c.put.ensures c.number_of-in-Ok.ensures
    (telling fd_arg c.in-Some.held.value _ c.deref.ensures _ (subst {A = ℤ} (λ z. Tells fd_arg c.deref.result.now (Ok z)) (sym same) c.in-Ok.ensures))

pub returns-in-Err-clause-does : goal.returns-in-Err-clause-does
returns-in-Err-clause-does c = by-some _ _ _ _ c.in-Some.held.value c.in-Some.held.value (Err c.in-Err.refusal) c.in-Some.ensures.taken c.put.ensures c.number_of-in-Err.ensures
    (refusing fd_arg c.in-Some.held.value _ c.deref.ensures c.in-Err.refusal c.in-Err.ensures)
