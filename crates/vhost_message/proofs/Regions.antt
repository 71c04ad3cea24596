-- The regions of a memory table, one after another as bytes.
use Rattle.std.proofs.Common.{◌≡◌, ◌≤◌, ◌<◌, ℕ, zero, suc, ◌+◌, ◌*◌, List, [], ◌∷◌, ◌++◌, length, take, drop, slice_index, slice_index_or, flat_map, Bool, ◌&&◌, append-nil, refl, ap, sym, ◌∙◌, arith}
use Rattle.std.proofs.Math.Bool.{and-true}
use Rattle.std.proofs.lemmas.Grind.{flat_map-append}
use Rattle.std.proofs.lemmas.List.{drop-drop, get_or-take, take_more}
use Rattle.std.proofs.lemmas.List.Folds.{list_all-append}
use Rattle.std.specs.List.{list_all}
use Rattle.vhost_message.specs.Text.{number_at}
use Rattle.vhost_message.specs.Records.{region_at, region_text, regions_of}
use Rattle.vhost_message.specs.Valid.{is_valid_region}
use Rattle.vhost_message.specs.declared.limits.TheConstants.{MEMORY_REGION_SIZE}
use Rattle.vhost_message.specs.declared.records.memory.VhostUserMemoryRegion.{VhostUserMemoryRegion}
use Rattle.vhost_message.proofs.Numbers.{number_behind}

-- ---- reading

-- a number within the first n bytes
number_within : (n i k : ℕ) (bs : List ℕ) → i + k ≤ n → number_at i k (take n bs) ≡ number_at i k bs
number_within n i zero bs fits = refl
number_within n i (suc k) bs fits =
    let byte : slice_index (take n bs) i ≡ slice_index bs i = get_or-take n bs i 0 (omega arith) in
    let rest = number_within n (suc i) k bs (omega arith) in
    λ j. byte j + 256 * rest j

-- a region is within its bytes
pub region_within_text : (n : ℕ) (bs : List ℕ) → n ≡ MEMORY_REGION_SIZE → region_at 0 (take n bs) ≡ region_at 0 bs
region_within_text n bs e =
    let start = number_within n 0 8 bs (omega arith) in
    let size = number_within n 8 8 bs (omega arith) in
    let user = number_within n 16 8 bs (omega arith) in
    let offset = number_within n 24 8 bs (omega arith) in
    λ i. record { guest_phys_addr = start i; memory_size = size i; user_addr = user i; mmap_offset = offset i }

-- the region at a place is that at the head of what follows there
pub region_behind : (p : ℕ) (bs : List ℕ) → region_at 0 (drop p bs) ≡ region_at p bs
region_behind p bs =
    let start : number_at 0 8 (drop p bs) ≡ number_at p 8 bs = number_behind p 0 8 bs ∙ ap (λ j. number_at j 8 bs) (omega arith) in
    let size = number_behind p 8 8 bs in
    let user = number_behind p 16 8 bs in
    let offset = number_behind p 24 8 bs in
    λ i. record { guest_phys_addr = start i; memory_size = size i; user_addr = user i; mmap_offset = offset i }

-- one region more is read
pub regions_of-more : (i : ℕ) (bs : List ℕ) → regions_of (i + 1) bs ≡ regions_of i bs ++ region_at (MEMORY_REGION_SIZE * i) bs ∷ []
regions_of-more i bs = more i bs ∙ ap (λ (r : VhostUserMemoryRegion). regions_of i bs ++ r ∷ []) (region_behind (MEMORY_REGION_SIZE * i) bs)
  where
    more : (i : ℕ) (bs : List ℕ) → regions_of (i + 1) bs ≡ regions_of i bs ++ region_at 0 (drop (MEMORY_REGION_SIZE * i) bs) ∷ []
    more zero bs = refl
    more (suc i) bs =
        let place : MEMORY_REGION_SIZE * suc i ≡ MEMORY_REGION_SIZE + MEMORY_REGION_SIZE * i = omega arith in
        let next : drop (MEMORY_REGION_SIZE * i) (drop MEMORY_REGION_SIZE bs) ≡ drop (MEMORY_REGION_SIZE * suc i) bs =
        drop-drop (MEMORY_REGION_SIZE * i) MEMORY_REGION_SIZE bs ∙ ap (λ j. drop j bs) (sym place) in
        let rest : regions_of (i + 1) (drop MEMORY_REGION_SIZE bs) ≡ regions_of i (drop MEMORY_REGION_SIZE bs) ++ region_at 0 (drop (MEMORY_REGION_SIZE * suc i) bs) ∷ [] =
        more i (drop MEMORY_REGION_SIZE bs) ∙ ap (λ xs. regions_of i (drop MEMORY_REGION_SIZE bs) ++ region_at 0 xs ∷ []) next in
        let after : suc i + 1 ≡ suc (i + 1) = omega arith in
        rw after (ap (λ rs. region_at 0 bs ∷ rs) rest)

pub length-regions_of : (n : ℕ) (bs : List ℕ) → length (regions_of n bs) ≡ n
length-regions_of zero bs = refl
length-regions_of (suc n) bs = ap suc (length-regions_of n (drop MEMORY_REGION_SIZE bs))

-- all are valid, if those before it and it are
pub valid-more : (all valid : Bool) (rs : List VhostUserMemoryRegion) (r : VhostUserMemoryRegion) (now : List VhostUserMemoryRegion)
    → all ≡ list_all is_valid_region rs → valid ≡ is_valid_region r → now ≡ rs ++ r ∷ [] → (all && valid) ≡ list_all is_valid_region now
valid-more all valid rs r now before here more =
    (λ j. before j && here j) ∙ sym (ap (λ b. list_all is_valid_region rs && b) (and-true (is_valid_region r))) ∙ sym (list_all-append is_valid_region rs (r ∷ [])) ∙ sym (ap (list_all is_valid_region) more)

-- ---- writing

-- one region more is written
pub text-more : (i : ℕ) (rs : List VhostUserMemoryRegion) (d : VhostUserMemoryRegion) → i < length rs
    → flat_map region_text (take (i + 1) rs) ≡ flat_map region_text (take i rs) ++ region_text (slice_index_or rs i d)
text-more i rs d fits =
    ap (flat_map region_text) (take_more rs i d fits) ∙ flat_map-append region_text (take i rs) (slice_index_or rs i d ∷ [])
    ∙ ap (λ bs. flat_map region_text (take i rs) ++ bs) (append-nil (region_text (slice_index_or rs i d)))
