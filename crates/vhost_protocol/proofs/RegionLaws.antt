-- The regions of a table are read as they were written.
use Rattle.std.proofs.Common.{◌≡◌, ℕ, ◌*◌, ◌≤◌, true, ◌&&◌, List, [], ◌∷◌, ◌++◌, length, refl, ◌∙◌, ap, arith}
use Rattle.std.specs.Prelude.{flat_map, All, nat_le}
use Rattle.std.proofs.lemmas.Bool.{le-leb}
use Rattle.std.proofs.lemmas.List.Elements.{All-head, All-tail}
use Rattle.byteorder.specs.Numbers.{little_number-reads_back}
use Rattle.vhost_message.specs.declared.limits.TheConstants.{MAX_MEM_REGIONS, MEMORY_REGION_SIZE}
use Rattle.vhost_message.specs.declared.records.memory.VhostUserMemoryRegion.{VhostUserMemoryRegion}
use Rattle.vhost_message.specs.RecordLaws.{RegionFits, memory-reads_back}
use Rattle.vhost_message.specs.Records.{region_text, region_at, regions_of, memory_text, memory_of}
use Rattle.vhost_message.specs.Text.{digits}
use Rattle.vhost_message.specs.Valid.{is_valid_memory}
use Rattle.vhost_protocol.specs.Written.{table_head}

pub region-read : (r : VhostUserMemoryRegion) (rest : List ℕ) → RegionFits r → region_at 0 (region_text r ++ rest) ≡ r
region-read r rest fits =
    let start = little_number-reads_back 8 r.guest_phys_addr (digits 8 r.memory_size ++ digits 8 r.user_addr ++ digits 8 r.mmap_offset ++ rest) fits.0 in
    let size = little_number-reads_back 8 r.memory_size (digits 8 r.user_addr ++ digits 8 r.mmap_offset ++ rest) fits.1 in
    let user = little_number-reads_back 8 r.user_addr (digits 8 r.mmap_offset ++ rest) fits.2 in
    let offset = little_number-reads_back 8 r.mmap_offset rest fits.3 in
    λ i. record { guest_phys_addr = start i; memory_size = size i; user_addr = user i; mmap_offset = offset i }

pub regions-read : (rs : List VhostUserMemoryRegion) → All RegionFits rs → regions_of (length rs) (flat_map region_text rs) ≡ rs
regions-read [] fits = refl
regions-read (r ∷ rs) fits =
    ap (λ x. x ∷ regions_of (length rs) (flat_map region_text rs)) (region-read r (flat_map region_text rs) (All-head RegionFits r rs fits))
    ∙ ap (λ x. r ∷ x) (regions-read rs (All-tail RegionFits r rs fits))

pub regions-length : (rs : List VhostUserMemoryRegion) → length (flat_map region_text rs) ≡ MEMORY_REGION_SIZE * length rs
regions-length [] = refl
regions-length (r ∷ rs) = let rest = regions-length rs in omega (arith, rest)

-- the head of a table of as many regions as allowed
pub head-read : (n : ℕ) → n ≤ MAX_MEM_REGIONS → memory_of (memory_text (table_head n)) ≡ table_head n
head-read n most = memory-reads_back (table_head n) (omega arith, omega arith)

pub head-valid : (n : ℕ) → 1 ≤ n → n ≤ MAX_MEM_REGIONS → is_valid_memory (memory_of (memory_text (table_head n))) ≡ true
head-valid n least most =
    ap (λ x. is_valid_memory x) (head-read n most)
    ∙ ap (λ b. b && nat_le n MAX_MEM_REGIONS) (le-leb 1 n least)
    ∙ le-leb n MAX_MEM_REGIONS most
