-- One entry more of a batch is marked, or is none of the queue's.
use Rattle.std.proofs.Common.{◌≡◌, ℕ, ◌+◌, ◌-◌, ◌<◌, ◌≤◌, suc, Bool, true, false, List, length, set, Err, refl, arith, nat_lt, lt-ltb, le-ltb}
use Rattle.vhost_queue.specs.Inflight.{entry_of, marked}
use Rattle.vhost_queue.specs.declared.error.Error.TheVariants.{InvalidInflight}
use Rattle.vhost_queue.specs.declared.inflight.InflightEntry.{InflightEntry}

pub marked-more : (es : List InflightEntry) (n k head : ℕ) (marks : List Bool) → k < n → head < length es
    → marked es (n - (k + 1)) (entry_of es head).next (set marks head true) ≡ marked es (n - k) head marks
marked-more es n k head marks lt within =
    let left : n - k ≡ suc (n - (k + 1)) = omega arith in
    let test : nat_lt head (length es) ≡ true = lt-ltb head (length es) within in
    rw (left, test) refl

pub marked-refused : (es : List InflightEntry) (n k head : ℕ) (marks : List Bool) → k < n → length es ≤ head
    → marked es (n - k) head marks ≡ Err InvalidInflight
marked-refused es n k head marks lt beyond =
    let left : n - k ≡ suc (n - (k + 1)) = omega arith in
    let test : nat_lt head (length es) ≡ false = le-ltb head (length es) beyond in
    rw (left, test) refl
