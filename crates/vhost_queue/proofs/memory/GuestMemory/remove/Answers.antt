-- One region less leaves them valid, apart and few.
use Rattle.std.proofs.Common.{◌≡◌, ℕ, ◌+◌, ◌<◌, List, true, length, inl, inr, arith}
use Rattle.std.specs.Prelude.{All, remove}
use Rattle.std.proofs.lemmas.Bool.{cases_lt}
use Rattle.std.proofs.lemmas.List.Edits.{length-remove, get_or-remove_below, get_or-remove_above}
use Rattle.std.proofs.lemmas.List.Quantifiers.{all_pairs_remove}
use Rattle.vhost_queue.specs.Memory.{is_apart, is_region}
use Rattle.vhost_queue.proofs.memory.GuestMemory.remove.Goals as goal

All-remove : {X : Type 0} (P : X → Type 0) (xs : List X) (i : ℕ) → i < length xs → All P xs → All P (remove xs i)
All-remove P xs i lt h k d less =
    let n = length-remove xs i lt in
    elim (cases_lt k i) [
      | inl low ↦ rw (get_or-remove_below xs i d k low lt) (h k d (omega arith))
      | inr high ↦ rw (get_or-remove_above xs i d k high lt) (h (k + 1) d (omega arith))
    ]

pub invariant_of-self : goal.invariant_of-self
invariant_of-self c = record {
  valid = rw c.remove-gone.ensures.items (All-remove (λ r. is_region r ≡ true) _ _ c.in-Some.ensures.some.0 c.args.self.now.valid);
  apart = rw c.remove-gone.ensures.items (all_pairs_remove (λ r s. is_apart r s ≡ true) _ _ c.in-Some.ensures.some.0 c.args.self.now.apart);
  few = (let less = length-remove c.args.self.now.regions.items c.in-Some.at c.in-Some.ensures.some.0 in let few = c.args.self.now.few in rw c.remove-gone.ensures.items (omega arith));
}
