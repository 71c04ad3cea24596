use Rattle.std.proofs.Common.{Bool, List, inl, inr, length, sym, ◌∙◌, ap, arith}
use Rattle.std.proofs.lemmas.List.Sorted.{length_permutation}
use Rattle.vhost_queue.specs.Inflight.{pending}
use Rattle.vhost_c_queue_calls.proofs.Recovered.{lacking, refused, settled-finds}
use Rattle.vhost_c_queue_calls.proofs.plain.covretin_inflight_recover.Goals as goal
use Rattle.vhost_c_queue_calls.proofs.plain.covretin_inflight_recover.Goals.{then-settled-len-via-then-settled-len, then-settled-len-via-else-settled-len+then-again-len}

pub returns-then-settled-len-clause-reason : goal.returns-then-settled-len-clause-reason
returns-then-settled-len-clause-reason c =
    let many = length_permutation _ _ c.in-Ok.ensures.again in
    let found = settled-finds c.args.entries.now c.args.last_batch_head c.args.used_idx c.args.ring_idx in
    inr (lacking _ _ found _ _ _ c.in-Ok.recovered.settled.items c.in-Ok.ensures.settled c.number_of.ensures (elim (c.then-settled-len.branch) [
      | then-settled-len-via-then-settled-len w ↦ inl (λ same. w.if-settled-len.true (same ∙ sym c.in-Ok.recovered.settled.ok.0 ∙ sym c.len.ensures))
      | then-settled-len-via-else-settled-len+then-again-len w ↦ let few = w.if-again-len.true in let len = w.len-else-settled-len.ensures in let all = c.in-Ok.recovered.again.ok.0 in inr (omega arith)
    ]))

pub returns-else-again-len-clause-count : goal.returns-else-again-len-clause-count
returns-else-again-len-clause-count c _ =
    c.len-in-Ok-2.ensures ∙ c.in-Ok.recovered.again.ok.0 ∙ length_permutation _ _ c.in-Ok.ensures.again
    ∙ ap (λ (marks : List Bool). length (pending c.args.entries.now marks 0)) (sym (c.copy_from_slice.ensures.after ∙ c.deref.ensures.value))

pub returns-in-Err-clause-reason : goal.returns-in-Err-clause-reason
returns-in-Err-clause-reason c =
    let found = settled-finds c.args.entries.now c.args.last_batch_head c.args.used_idx c.args.ring_idx in
    inr (refused _ _ found _ _ _ c.in-Err.error c.number_of-in-Err.ensures c.in-Err.ensures.err)
