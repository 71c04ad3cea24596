-- Lists in records: sizes at each eighth byte, and names of sixteen bytes.
use Rattle.std.proofs.Common.{◌≡◌, ℕ, zero, suc, ◌+◌, ◌-◌, ◌*◌, ◌<◌, ◌%◌, ◌^◌, ◌&&◌, nat_eq, ◌==◌, List, [], ◌∷◌, ◌++◌, length, take, drop, set, append-nil, slice_index, min, inl, inr, refl, ap, sym, ◌∙◌, arith}
use Rattle.std.proofs.Math.ListN.{replicate, drop_of_length-le}
use Rattle.std.proofs.Math.Nat.{mod-eq_of_lt}
use borrow.Rule.Slice.PartMut.{put_mid, post_of}
use Rattle.std.proofs.lemmas.List.{drop-drop, drop-replicate, take_all, get_or-drop}
use Rattle.std.proofs.lemmas.Bool.{cases_lt}
use Rattle.std.specs.List.{list_all}
use Rattle.std.specs.Cmp.Lexicographic.{pointwise}
use Rattle.byteorder.specs.Numbers.{little_from-lt}
use Rattle.vhost_message.specs.Text.{number_at}
use Rattle.vhost_message.specs.Records.{numbers_of}

-- numbers that are those at each eighth byte are the numbers of the bytes
pub numbers-at : (ns bs : List ℕ) → ((k : ℕ) → k < length ns → slice_index ns k ≡ number_at 0 8 (drop (8 * k) bs)) → ns ≡ numbers_of (length ns) bs
numbers-at [] bs same = refl
numbers-at (n ∷ ns) bs same =
    let first : n ≡ number_at 0 8 bs = same 0 (omega arith) in
    let place : (k : ℕ) → 8 * suc k ≡ 8 + 8 * k = λ k. omega arith in
    let next : (k : ℕ) → drop (8 * suc k) bs ≡ drop (8 * k) (drop 8 bs) = λ k. ap (λ j. drop j bs) (place k) ∙ sym (drop-drop (8 * k) 8 bs) in
    let rest : ns ≡ numbers_of (length ns) (drop 8 bs) = numbers-at ns (drop 8 bs) (λ k h. same (suc k) (omega arith) ∙ ap (number_at 0 8) (next k)) in
    λ i. first i ∷ rest i

-- each of the numbers of some bytes has 64 bits
pub numbers-fit : (n : ℕ) (bs : List ℕ) → ((i : ℕ) → slice_index bs i < 256) → (k : ℕ) → slice_index (numbers_of n bs) k < 2 ^ 64
numbers-fit zero bs small k = omega arith
numbers-fit (suc n) bs small zero = little_from-lt 0 8 bs small
numbers-fit (suc n) bs small (suc k) = numbers-fit n (drop 8 bs) (λ i. rw (get_or-drop 8 bs i 0) (small (8 + i))) k

-- the first n items, where n may be more than there are
take_capped : (n : ℕ) (xs : List ℕ) → take (min (length xs) n) xs ≡ take n xs
take_capped n xs =
    elim (cases_lt (length xs) n) [
      | inl less ↦ (let same : min (length xs) n ≡ length xs = omega arith in ap (λ k. take k xs) same ∙ take_all (length xs) xs (omega arith) ∙ sym (take_all n xs (omega arith)))
      | inr more ↦ (let same : min (length xs) n ≡ n = omega arith in ap (λ k. take k xs) same)
    ]

-- the first sizes, and 0 where there are fewer
pub first_sizes : (m count : ℕ) (sizes given : List ℕ) → given ≡ take count sizes → count ≡ min (length sizes) m
    → given ++ drop count (replicate m 0) ≡ take m sizes ++ replicate (m - length sizes) 0
first_sizes m count sizes given copied least =
    let shown : given ≡ take m sizes = copied ∙ ap (λ n. take n sizes) least ∙ take_capped m sizes in
    let left : m - count ≡ m - length sizes = omega arith in
    let zeros : drop count (replicate m 0) ≡ replicate (m - length sizes) 0 = drop-replicate count m 0 ∙ ap (λ n. replicate n 0) left in
    λ i. shown i ++ zeros i

-- all of them are the byte b
pub all_same : (b : ℕ) (xs : List ℕ) → pointwise nat_eq xs (replicate (length xs) b) ≡ list_all (λ x. x == b) xs
all_same b [] = refl
all_same b (x ∷ xs) = ap (λ r. (x == b) && r) (all_same b xs)

-- a byte written at the head, and others behind it to the end
pub head_written : (out : List ℕ) (s : ℕ) (p : List ℕ) → length out ≡ suc (length p) → s < 256 → put_mid 1 (length (set out 0 s) - 1) (set out 0 s) p ≡ s % 256 ∷ p
head_written [] s p count small = absurd (omega arith)
head_written (x ∷ xs) s p count small =
    let low : s ≡ s % 256 = sym (mod-eq_of_lt small) in
    let none : post_of 1 (length (s ∷ xs) - 1) (s ∷ xs) ≡ [] = drop_of_length-le xs (omega arith) in
    let rest : p ++ post_of 1 (length (s ∷ xs) - 1) (s ∷ xs) ≡ p = ap (λ ys. p ++ ys) none ∙ append-nil p in
    λ i. low i ∷ rest i
