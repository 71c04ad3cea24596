use Rattle.std.proofs.Common.{Bool, List, inl, inr, length, sym, ◌∙◌, ap, arith}
use Rattle.std.proofs.lemmas.List.Sorted.{length_permutation}
use Rattle.vhost_queue.specs.Inflight.{pending}
use Rattle.vhost_queue.specs.PackedInflight.{holding}
use Rattle.vhost_c_queue_calls.proofs.Recovered.{lacking, refused, free_in-finds}
use Rattle.vhost_c_queue_calls.proofs.plain_packed.covretin_inflight_recover_packed.Goals as goal
use Rattle.vhost_c_queue_calls.proofs.plain_packed.covretin_inflight_recover_packed.Goals.{then-free-len-via-then-free-len, then-free-len-via-else-free-len+then-again-len}

pub returns-then-free-len-clause-reason : goal.returns-then-free-len-clause-reason
returns-then-free-len-clause-reason c =
    let many = length_permutation _ _ c.in-Ok.ensures.again in
    let found = free_in-finds c.args.entries.now (holding c.args.now.now c.args.old.now c.args.flags) in
    inr (lacking _ _ found _ _ _ c.in-Ok.recovered.free.items c.in-Ok.ensures.free c.number_of.ensures (elim (c.then-free-len.branch) [
      | then-free-len-via-then-free-len w ↦ inl (λ same. w.if-free-len.true (same ∙ sym c.in-Ok.recovered.free.ok.0 ∙ sym c.len.ensures))
      | then-free-len-via-else-free-len+then-again-len w ↦ let few = w.if-again-len.true in let len = w.len-else-free-len.ensures in let all = c.in-Ok.recovered.again.ok.0 in inr (omega arith)
    ]))

pub returns-else-again-len-clause-count : goal.returns-else-again-len-clause-count
returns-else-again-len-clause-count c _ =
    c.len-in-Ok-2.ensures ∙ c.in-Ok.recovered.again.ok.0 ∙ length_permutation _ _ c.in-Ok.ensures.again
    ∙ ap (λ (marks : List Bool). length (pending c.args.entries.now marks 0)) (sym (c.copy_from_slice.ensures.after ∙ c.deref.ensures.value))

pub returns-in-Err-clause-reason : goal.returns-in-Err-clause-reason
returns-in-Err-clause-reason c =
    let found = free_in-finds c.args.entries.now (holding c.args.now.now c.args.old.now c.args.flags) in
    inr (refused _ _ found _ _ _ c.in-Err.error c.number_of-in-Err.ensures c.in-Err.ensures.err)
