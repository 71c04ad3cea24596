-- The flags of a header, as numbers.
use Rattle.std.proofs.Common.{◌≡◌, ◌≤◌, ◌<◌, ℕ, zero, suc, zero-mul, one-mul, ◌+◌, ◌-◌, ◌*◌, ◌/◌, ◌%◌, ◌^◌, ◌==◌, not, Bool, true, false, if◌then◌else◌, lit≤, bit_and, bit_or, arith, ◌∙◌, ap}
use Rattle.std.specs.Int.{bit_at}
use Rattle.std.specs.Int.Bits.{or_add_and}
use Rattle.std.proofs.lemmas.Bool.Decides.{nat_tests}
use Rattle.std.proofs.lemmas.Nat.{and_mask, and_comm, and-not, or_disjoint, or_shifted, pow_pos, shr_split, mod-pow-add}
use Rattle.std.proofs.lemmas.Nat.Bits.{and_high, and_high_mask, and_pow, bit_at-lt}
use Rattle.vhost_message.specs.Bits.{has_bit, with_bit}
use Rattle.vhost_message.specs.declared.limits.TheConstants.{MAX_MSG_SIZE}
use Rattle.vhost_message.specs.Header.{with_version, is_valid_header}

pub kept_flags : (f : ℕ) → bit_or (bit_and f 12) 1 ≡ with_version f
kept_flags f =
    let high : bit_and f 12 ≡ f / 4 % 4 * 4 = and_high f 2 2 in
    let low : bit_and (f / 4 % 4 * 4) 1 ≡ 0 = and_mask (f / 4 % 4 * 4) 1 ∙ omega arith in
    rw high (or_disjoint (f / 4 % 4 * 4) 1 low)

-- a header that `new` makes is valid, if its body is not too long
pub valid-with_version : (code flags size : ℕ) → size ≤ MAX_MSG_SIZE → is_valid_header (record { code = code; flags = with_version flags; size = size }) ≡ true
valid-with_version code flags size short = grind (arith, nat_tests)

-- REPLY is kept
pub reply-with_version : (f : ℕ) → has_bit (with_version f) 2 ≡ has_bit f 2
reply-with_version f =
    let same : bit_at (with_version f) 2 ≡ bit_at f 2 = omega arith in
    ap (λ b. b == 1) same

-- NEED_REPLY is kept
pub need_reply-with_version : (f : ℕ) → has_bit (with_version f) 3 ≡ has_bit f 3
need_reply-with_version f =
    let same : bit_at (with_version f) 3 ≡ bit_at f 3 = omega arith in
    ap (λ b. b == 1) same

-- the test of a bit by its mask
masked : (b : ℕ) → b < 2 → (m : ℕ) → 0 < m → not (b * m == 0) ≡ (b == 1)
masked zero small m positive = simp zero-mul
masked (suc zero) small m positive = rw (one-mul m) (grind (arith, nat_tests))
masked (suc (suc n)) small m positive = absurd (omega arith)

pub has_bit-masked : (f k : ℕ) → not (bit_and f (2 ^ k) == 0) ≡ has_bit f k
has_bit-masked f k = rw (and_pow f k) (masked (bit_at f k) (bit_at-lt f k) (2 ^ k) (pow_pos k))

-- a word by its bits above bit k, bit k, and those below
parts : (f k : ℕ) → f ≡ f / 2 ^ (k + 1) * 2 ^ (k + 1) + bit_at f k * 2 ^ k + f % 2 ^ k
parts f k =
    let low : f / 2 ^ k * 2 ^ k + f % 2 ^ k ≡ f = shr_split f k in
    let high : f / 2 ^ (k + 1) * 2 ^ (k + 1) + f % 2 ^ (k + 1) ≡ f = shr_split f (k + 1) in
    let both : f % 2 ^ (1 + k) ≡ (f / 2 ^ k % 2 ^ 1) * 2 ^ k + f % 2 ^ k = mod-pow-add f 1 k in
    let turned : f % 2 ^ (k + 1) ≡ f % 2 ^ (1 + k) = ap (λ n. f % 2 ^ n) (omega arith) in
    omega arith

pub with_bit-set : (f k : ℕ) → bit_or f (2 ^ k) ≡ with_bit k true f
with_bit-set f k =
    let e = parts f k in
    let sum : bit_or f (2 ^ k) + bit_and f (2 ^ k) ≡ f + 2 ^ k = or_add_and f (2 ^ k) in
    let bit : bit_and f (2 ^ k) ≡ bit_at f k * 2 ^ k = and_pow f k in
    omega arith

pub with_bit-cleared : (f k : ℕ) → f < 2 ^ 32 → 2 ^ k < 2 ^ 32 → bit_and f (2 ^ 32 - 1 - 2 ^ k) ≡ with_bit k false f
with_bit-cleared f k fits small =
    let e = parts f k in
    let sum : bit_and (2 ^ 32 - 1 - 2 ^ k) f + bit_and (2 ^ k) f ≡ f = and-not 32 (2 ^ k) f small fits in
    let turned : bit_and (2 ^ 32 - 1 - 2 ^ k) f ≡ bit_and f (2 ^ 32 - 1 - 2 ^ k) = and_comm (2 ^ 32 - 1 - 2 ^ k) f in
    let turned_bit : bit_and (2 ^ k) f ≡ bit_and f (2 ^ k) = and_comm (2 ^ k) f in
    let bit : bit_and f (2 ^ k) ≡ bit_at f k * 2 ^ k = and_pow f k in
    omega arith

-- to set or clear a flag writes its bit
pub with_bit-written : (f k : ℕ) → f < 2 ^ 32 → 2 ^ k < 2 ^ 32 → (on : Bool) → (if on then bit_or f (2 ^ k) else bit_and f (2 ^ 32 - 1 - 2 ^ k)) ≡ with_bit k on f
with_bit-written f k fits small true = with_bit-set f k
with_bit-written f k fits small false = with_bit-cleared f k fits small

-- to write the version leaves the flags above it
pub version-written : (f v : ℕ) → f < 2 ^ 32 → bit_or (bit_and f (2 ^ 32 - 1 - 3)) (bit_and v 3) ≡ f / 4 * 4 + v % 4
version-written f v fits =
    let high : bit_and f (2 ^ 32 - 4) ≡ f / 4 * 4 = and_high_mask 32 2 (lit≤ tt) f fits in
    let low : bit_and v 3 ≡ v % 4 = and_mask v 2 in
    let small : v % 4 < 4 = omega arith in
    rw (high, low) (or_shifted (f / 4) 2 (v % 4) small)
