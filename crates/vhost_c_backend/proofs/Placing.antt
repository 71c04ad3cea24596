-- Regions are written one after another, and other lists to the front of a place.
use Rattle.std.proofs.Common.{◌≡◌, ℕ, zero, suc, ◌+◌, ◌<◌, ◌≤◌, List, [], ◌∷◌, ◌++◌, length, take, drop, slice_set, slice_index_or, refl, sym, ap, ◌∙◌, arith}
use Rattle.std.proofs.lemmas.List.{take-append-drop}
use Rattle.vhost_message.specs.declared.records.memory.VhostUserMemoryRegion.{VhostUserMemoryRegion}
use Rattle.vhost_link.specs.declared.plain.PlainHandle.{PlainHandle}
use Rattle.vhost_c_common.specs.declared.records.Region.{Region}
use Rattle.vhost_c_backend.specs.Arguments.{first_fd, fd_at, region_at, regions_with}

drop-none : (n : ℕ) → drop {A = PlainHandle} n [] ≡ []
drop-none zero = refl
drop-none (suc n) = refl

drop-one : (n : ℕ) (hs : List PlainHandle) → drop n (drop 1 hs) ≡ drop (suc n) hs
drop-one n [] = drop-none n ∙ sym (drop-none (suc n))
drop-one n (h ∷ hs) = refl

-- the next one goes behind those before it
next-region : (rs : List VhostUserMemoryRegion) (hs : List PlainHandle) (before : List Region) (i : ℕ) (d : VhostUserMemoryRegion) → i < length rs → length rs ≤ length before
    → slice_set (regions_with (take i rs) hs ++ drop i before) i (region_at (slice_index_or rs i d) (fd_at hs i)) ≡ regions_with (take (suc i) rs) hs ++ drop (suc i) before
next-region [] hs before i d lt room = absurd (omega arith)
next-region (r ∷ rs) hs [] i d lt room = absurd (omega arith)
next-region (r ∷ rs) hs (b ∷ before) zero d lt room = refl
next-region (r ∷ rs) hs (b ∷ before) (suc i) d lt room =
    let less : i < length rs = omega arith in let fits : length rs ≤ length before = omega arith in
    let same : fd_at hs (suc i) ≡ fd_at (drop 1 hs) i = ap first_fd (sym (drop-one i hs)) in
    ap (λ xs. region_at r (first_fd hs) ∷ xs) (ap (λ fd. slice_set (regions_with (take i rs) (drop 1 hs) ++ drop i before) i (region_at (slice_index_or rs i d) fd)) same ∙ next-region rs (drop 1 hs) before i d less fits)

-- the same of a list of places that is so far like this
pub writes-next : (rs : List VhostUserMemoryRegion) (hs : List PlainHandle) (before places : List Region) (i : ℕ) (d : VhostUserMemoryRegion) (r : Region) → i < length rs → length rs ≤ length before → places ≡ regions_with (take i rs) hs ++ drop i before
    → r ≡ region_at (slice_index_or rs i d) (fd_at hs i) → slice_set places i r ≡ regions_with (take (i + 1) rs) hs ++ drop (i + 1) before
writes-next rs hs before places i d r lt room so-far is =
    let one : suc i ≡ i + 1 = omega arith in
    ap (λ xs. slice_set xs i r) so-far ∙ ap {A = Region} (λ x. slice_set (regions_with (take i rs) hs ++ drop i before) i x) is ∙ next-region rs hs before i d lt room ∙ ap (λ n. regions_with (take n rs) hs ++ drop n before) one

-- there are as many as regions
pub length-with : (rs : List VhostUserMemoryRegion) (hs : List PlainHandle) → length (regions_with rs hs) ≡ length rs
length-with [] hs = refl
length-with (r ∷ rs) hs = ap suc (length-with rs (drop 1 hs))

-- a list at the front of a place, which is as it was behind that
pub fronted : {A : Type 0} (list before after : List A) (n : ℕ) → length list ≡ n → take n after ≡ list → drop n after ≡ drop n before → after ≡ list ++ drop (length list) before
fronted list before after n is front rest =
    sym (take-append-drop n after) ∙ ap (λ xs. xs ++ drop n after) front ∙ ap (λ xs. list ++ xs) (rest ∙ ap (λ k. drop k before) (sym is))
