-- A ring that is there has its place in each array, and sizes that it may have.
use Rattle.std.proofs.Common.{◌≡◌, ℕ, ◌<◌, ◌≤◌, true, false, arith}
use Rattle.std.specs.Prelude.{◌&&◌, nat_le, nat_lt}
use Rattle.std.proofs.lemmas.Bool.{and_parts, ltb-true}
use Rattle.std.proofs.lemmas.Bool.Decides.{nat_tests}
use Rattle.vhost_dummy_backend.specs.declared.dummy.TheConstants.{MAX_QUEUE_NUM, MAX_VRING_NUM}

pub within : (queues index ring : ℕ) → (nat_lt index queues && nat_lt index MAX_QUEUE_NUM) ≡ true → ring ≡ index → ring < MAX_QUEUE_NUM
within queues index ring is same = rw same (ltb-true index MAX_QUEUE_NUM ((and_parts (nat_lt index queues) (nat_lt index MAX_QUEUE_NUM) is).1))

-- a size that a ring may have, none, and one that is too great
pub fitting : (num : ℕ) → (num ≡ 0 → ⊥) → num ≤ MAX_VRING_NUM → (nat_le 1 num && nat_le num MAX_VRING_NUM) ≡ true
fitting num some small = grind (arith, nat_tests)

pub none : (num : ℕ) → num ≡ 0 → (nat_le 1 num && nat_le num MAX_VRING_NUM) ≡ false
none num is = grind (arith, nat_tests)

pub great : (num : ℕ) → MAX_VRING_NUM < num → (nat_le 1 num && nat_le num MAX_VRING_NUM) ≡ false
great num above = grind (arith, nat_tests)
