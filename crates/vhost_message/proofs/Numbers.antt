-- Numbers at places of some bytes.
use Rattle.std.proofs.Common.{◌≡◌, ℕ, zero, suc, ◌+◌, ◌-◌, ◌*◌, List, length, take, drop, length-drop, slice_index, arith, refl, ap, ◌∙◌}
use Rattle.std.proofs.lemmas.List.{get_or-drop, take_all}
use Rattle.vhost_message.specs.Text.{number_at}
use Rattle.vhost_message.specs.Records.{region_at}

-- the number at a place is that at the head of what follows there
pub number_behind : (p i k : ℕ) (bs : List ℕ) → number_at i k (drop p bs) ≡ number_at (p + i) k bs
number_behind p i zero bs = refl
number_behind p i (suc k) bs =
    let byte : slice_index (drop p bs) i ≡ slice_index bs (p + i) = get_or-drop p bs i 0 in
    let rest : number_at (suc i) k (drop p bs) ≡ number_at (p + suc i) k bs = number_behind p (suc i) k bs in
    let place : p + suc i ≡ suc (p + i) = omega arith in
    let rest' : number_at (suc i) k (drop p bs) ≡ number_at (suc (p + i)) k bs = rest ∙ ap (λ j. number_at j k bs) place in
    λ j. byte j + 256 * rest' j

-- what the code writes `&bs[p..]` is what follows the first p bytes
pub rest_is : (p : ℕ) (bs : List ℕ) → take (length bs - p) (drop p bs) ≡ drop p bs
rest_is p bs = take_all (length bs - p) (drop p bs) (omega (arith, length-drop p bs))

-- the number at the head of `&bs[p..]`
pub number_of_rest : (p k : ℕ) (bs : List ℕ) → number_at 0 k (take (length bs - p) (drop p bs)) ≡ number_at p k bs
number_of_rest p k bs = ap (number_at 0 k) (rest_is p bs) ∙ number_behind p 0 k bs ∙ ap (λ j. number_at j k bs) (omega arith)

-- the region at the head of `&bs[8..]`
pub region_of_rest : (bs : List ℕ) → region_at 0 (take (length bs - 8) (drop 8 bs)) ≡ region_at 8 bs
region_of_rest bs =
    let rest = rest_is 8 bs in
    let start = number_behind 8 0 8 bs in
    let size = number_behind 8 8 8 bs in
    let user = number_behind 8 16 8 bs in
    let offset = number_behind 8 24 8 bs in
    ap (region_at 0) rest ∙ (λ i. record { guest_phys_addr = start i; memory_size = size i; user_addr = user i; mmap_offset = offset i })
