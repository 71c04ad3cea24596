-- The regions of a table.
use Rattle.std.proofs.Common.{◌≡◌, ℕ, zero, suc, ◌+◌, ◌*◌, List, ◌∷◌, length, take, drop, refl, ap, ◌∙◌, arith}
use Rattle.std.proofs.lemmas.List.{drop-take}
use Rattle.byteorder.specs.Numbers.{little_from-take}
use Rattle.vhost_message.specs.declared.limits.TheConstants.{MEMORY_REGION_SIZE}
use Rattle.vhost_message.specs.Records.{region_at, regions_of}

-- so many as it says
pub length_regions : (n : ℕ) (bs : List ℕ) → length (regions_of n bs) ≡ n
length_regions zero bs = refl
length_regions (suc n) bs = ap suc (length_regions n (drop MEMORY_REGION_SIZE bs))

-- the first of them lies in the first bytes
first-region : (n : ℕ) (bs : List ℕ) → region_at 0 (take (MEMORY_REGION_SIZE + n) bs) ≡ region_at 0 bs
first-region n bs =
    let base = little_from-take 0 8 (MEMORY_REGION_SIZE + n) bs (omega arith) in
    let size = little_from-take 8 8 (MEMORY_REGION_SIZE + n) bs (omega arith) in
    let user = little_from-take 16 8 (MEMORY_REGION_SIZE + n) bs (omega arith) in
    let offset = little_from-take 24 8 (MEMORY_REGION_SIZE + n) bs (omega arith) in
    rw (base, size, user, offset) refl

-- they lie in so many bytes, whatever is behind these
pub regions_front : (n : ℕ) (bs : List ℕ) → regions_of n (take (MEMORY_REGION_SIZE * n) bs) ≡ regions_of n bs
regions_front zero bs = refl
regions_front (suc n) bs =
    let more : MEMORY_REGION_SIZE * suc n ≡ MEMORY_REGION_SIZE + MEMORY_REGION_SIZE * n = omega arith in
    ap (λ k. regions_of (suc n) (take k bs)) more
    ∙ ap (λ r. r ∷ regions_of n (drop MEMORY_REGION_SIZE (take (MEMORY_REGION_SIZE + MEMORY_REGION_SIZE * n) bs))) (first-region (MEMORY_REGION_SIZE * n) bs)
    ∙ ap (λ xs. region_at 0 bs ∷ regions_of n xs) (drop-take MEMORY_REGION_SIZE (MEMORY_REGION_SIZE * n) bs)
    ∙ ap (λ rs. region_at 0 bs ∷ rs) (regions_front n (drop MEMORY_REGION_SIZE bs))
