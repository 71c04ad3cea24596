-- Where regions are mapped, as a reply tells it.
use Rattle.std.proofs.Common.{◌≡◌, ℕ, suc, ◌+◌, ◌*◌, ◌/◌, ◌<◌, ◌≤◌, ◌^◌, min, List, [], ◌∷◌, ◌++◌, length, take, flat_map, set, refl, sym, ap, ◌∙◌, arith, lit<}
use Rattle.std.specs.Prelude.{All}
use Rattle.std.proofs.lemmas.Grind.{take-set_at}
use Rattle.std.proofs.lemmas.List.{drop_all, map-append}
use Rattle.std.proofs.lemmas.List.Elements.{All-head, All-tail}
use Rattle.std.proofs.lemmas.Nat.{div-mul-add}
use Rattle.byteorder.specs.Numbers.{little_number-reads_back}
use Rattle.vhost_message.specs.Text.{digits}
use Rattle.vhost_message.specs.Records.{region_at, region_text, regions_of}
use Rattle.vhost_message.specs.declared.heard_req.HeardReq.{HeardReq}
use Rattle.vhost_message.specs.declared.limits.TheConstants.{MAX_MEM_REGIONS, MEMORY_REGION_SIZE}
use Rattle.vhost_message.specs.declared.records.memory.VhostUserMemoryRegion.{VhostUserMemoryRegion}
use Rattle.vhost_message.specs.declared.records.memory.VhostUserSingleMemoryRegion.{VhostUserSingleMemoryRegion}
use Rattle.vhost_message.proofs.Regions.{regions_of-more}
use Rattle.vhost_protocol.specs.AnswerTable.{bases_in}
use Rattle.vhost_protocol.specs.Answered.{rebased, rebased_region}
use Rattle.vhost_protocol.specs.Served.{Replied}
use Rattle.vhost_protocol.specs.Written.{OneRegion, Regions}
use Rattle.vhost_protocol.proofs.RegionLaws.{regions-length}
use Rattle.vhost_c_joined.specs.Judged.{told_bases}
use Rattle.vhost_c_joined.proofs.Replying.{text_in}

abbrev Region : Type 0
Region = VhostUserMemoryRegion

-- ---- they are read one after another

pub none-told : (text : List ℕ) → length text < 20 → told_bases text ≡ []
none-told text few = ap (λ (xs : List ℕ). bases_in (regions_of (min (length xs / MEMORY_REGION_SIZE) MAX_MEM_REGIONS) xs)) (drop_all 20 text (let all : length text ≤ 20 = omega (arith, few) in all))

pub one-more : (i : ℕ) (places text : List ℕ) (r : Region) → i < length places → r ≡ region_at (MEMORY_REGION_SIZE * i) text → take i places ≡ bases_in (regions_of i text) → take (i + 1) (set places i r.user_addr) ≡ bases_in (regions_of (i + 1) text)
one-more i places text r within is before =
    take-set_at places i (i + 1) r.user_addr refl within ∙ ap (λ xs. xs ++ r.user_addr ∷ []) before ∙ ap (λ (x : Region). bases_in (regions_of i text) ++ x.user_addr ∷ []) is
    ∙ sym (map-append (λ (x : Region). x.user_addr) (regions_of i text) (region_at (MEMORY_REGION_SIZE * i) text ∷ [])) ∙ ap bases_in (sym (regions_of-more i text))

-- ---- those of a reply

read-back : (rs : List Region) (bs : List ℕ) → length bs ≡ length rs → All (λ base. base < 2 ^ 64) bs → bases_in (regions_of (length bs) (flat_map region_text (rebased rs bs))) ≡ bs
read-back [] [] long fits = refl
read-back [] (b ∷ bs) long fits = absurd (omega (arith, long))
read-back (r ∷ rs) [] long fits = absurd (omega (arith, long))
read-back (r ∷ rs) (b ∷ bs) long fits =
    let first = little_number-reads_back 8 b (digits 8 r.mmap_offset ++ flat_map region_text (rebased rs bs)) (All-head (λ base. base < 2 ^ 64) b bs fits) in
    ap (λ x. x ∷ bases_in (regions_of (length bs) (flat_map region_text (rebased rs bs)))) first ∙ ap (λ xs. b ∷ xs) (read-back rs bs (omega (arith, long)) (All-tail (λ base. base < 2 ^ 64) b bs fits))

as-many : (rs : List Region) (bs : List ℕ) → length bs ≡ length rs → length (rebased rs bs) ≡ length bs
as-many [] [] long = refl
as-many [] (b ∷ bs) long = absurd (omega (arith, long))
as-many (r ∷ rs) [] long = absurd (omega (arith, long))
as-many (r ∷ rs) (b ∷ bs) long = ap suc (as-many rs bs (omega (arith, long)))

pub table-back : (q : HeardReq) (rs : List Region) (bs : List ℕ) → length bs ≡ length rs → length bs ≤ MAX_MEM_REGIONS → All (λ base. base < 2 ^ 64) bs → told_bases (text_in q (Replied (Regions (rebased rs bs)) [])) ≡ bs
table-back q rs bs long few fits = ap (λ n. bases_in (regions_of n text)) count ∙ read-back rs bs long fits
  where
    text : List ℕ
    text = flat_map region_text (rebased rs bs)

    bytes-long : length text ≡ length bs * MEMORY_REGION_SIZE + 0
    bytes-long = let a = regions-length (rebased rs bs) in let b = as-many rs bs long in omega (arith, a, b)

    count : min (length text / MEMORY_REGION_SIZE) MAX_MEM_REGIONS ≡ length bs
    count = ap (λ n. min (n / MEMORY_REGION_SIZE) MAX_MEM_REGIONS) bytes-long ∙ ap (λ n. min n MAX_MEM_REGIONS) (div-mul-add (length bs) MEMORY_REGION_SIZE 0 (lit< tt)) ∙ capped (length bs) few
      where
        capped : (n : ℕ) → n ≤ MAX_MEM_REGIONS → min n MAX_MEM_REGIONS ≡ n
        capped n few = omega (arith, few)

pub region-back : (q : HeardReq) (v : VhostUserSingleMemoryRegion) (b : ℕ) → b < 2 ^ 64 → told_bases (text_in q (Replied (OneRegion (rebased_region v b)) [])) ≡ b ∷ []
region-back q v b fits = ap (λ x. x ∷ []) (little_number-reads_back 8 b (digits 8 v.region.mmap_offset) fits)
