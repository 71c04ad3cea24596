-- One entry more of a free list is marked.
use Rattle.std.proofs.Common.{◌≡◌, ℕ, ◌+◌, ◌-◌, ◌<◌, suc, Bool, true, List, length, set, refl, arith, nat_lt, lt-ltb}
use Rattle.vhost_queue.specs.Inflight.{entry_of}
use Rattle.vhost_queue.specs.PackedInflight.{freed}
use Rattle.vhost_queue.specs.declared.inflight.InflightEntry.{InflightEntry}

pub freed-more : (es : List InflightEntry) (n k i : ℕ) (marks : List Bool) → k < n → i < length es
    → freed es (n - (k + 1)) (entry_of es i).next (set marks i true) ≡ freed es (n - k) i marks
freed-more es n k i marks lt within =
    let left : n - k ≡ suc (n - (k + 1)) = omega arith in
    let test : nat_lt i (length es) ≡ true = lt-ltb i (length es) within in
    rw (left, test) refl
