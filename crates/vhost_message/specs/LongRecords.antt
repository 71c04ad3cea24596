-- Records that hold lists: within their fields, they are read from their texts again.
use Rattle.std.specs.Prelude.{◌≡◌, ℕ, zero, suc, ◌<◌, ◌^◌, Bool, true, false, List, [], ◌∷◌, ◌++◌, length, slice_index, refl}
use Rattle.std.specs.List.{flat_map}
use Rattle.std.proofs.Common.{ap, sym, ◌∙◌}
use Rattle.std.proofs.lemmas.Bool.{false≢true}
use Rattle.byteorder.specs.Numbers.{little_number-reads_back}
use Rattle.vhost_message.specs.Text.{digits}
use Rattle.vhost_message.specs.Records.{numbers_of, shmem_config_text, shmem_config_of, mmap_text, mmap_of}
use Rattle.vhost_message.specs.declared.records.shmem.VhostUserMMap.{VhostUserMMap}
use Rattle.vhost_message.specs.declared.records.shmem.VhostUserShMemConfig.{VhostUserShMemConfig}

-- 256 sizes, and each number within its field
pub record ShMemConfigFits (c : VhostUserShMemConfig) : Type 0 where
  pub nregions : c.nregions < 2 ^ 32
  pub padding : c.padding < 2 ^ 32
  pub count : length c.memory_sizes ≡ 256
  pub sizes : (k : ℕ) → slice_index c.memory_sizes k < 2 ^ 64

-- seven bytes of padding, and each number within its field
pub record MMapFits (m : VhostUserMMap) : Type 0 where
  pub shmid : m.shmid < 2 ^ 8
  pub padding : length m.padding ≡ 7
  pub fd_offset : m.fd_offset < 2 ^ 64
  pub shm_offset : m.shm_offset < 2 ^ 64
  pub len : m.len < 2 ^ 64
  pub flags : m.flags < 2 ^ 64

-- eight times a number
abbrev eights : ℕ → ℕ
eights zero = 0
eights (suc n) = suc (suc (suc (suc (suc (suc (suc (suc (eights n))))))))

-- eight bytes a number
length-numbers : (ns : List ℕ) → length (flat_map (digits 8) ns) ≡ eights (length ns)
length-numbers [] = refl
length-numbers (n ∷ ns) = ap (λ k. suc (suc (suc (suc (suc (suc (suc (suc k)))))))) (length-numbers ns)

numbers-read_back : (ns : List ℕ) → ((k : ℕ) → slice_index ns k < 2 ^ 64) → numbers_of (length ns) (flat_map (digits 8) ns) ≡ ns
numbers-read_back [] fits = refl
numbers-read_back (n ∷ ns) fits =
    let first = little_number-reads_back 8 n (flat_map (digits 8) ns) (fits 0) in
    let rest = numbers-read_back ns (λ k. fits (suc k)) in
    λ i. first i ∷ rest i

pub shmem_config-length : (c : VhostUserShMemConfig) → ShMemConfigFits c → length (shmem_config_text c) ≡ 2056
shmem_config-length c fits =
    ap (λ k. suc (suc (suc (suc (suc (suc (suc (suc k)))))))) (length-numbers c.memory_sizes ∙ ap eights fits.count)

pub shmem_config-reads_back : (c : VhostUserShMemConfig) → ShMemConfigFits c → shmem_config_of (shmem_config_text c) ≡ c
shmem_config-reads_back c fits =
    let nregions = little_number-reads_back 4 c.nregions (digits 4 c.padding ++ flat_map (digits 8) c.memory_sizes) fits.nregions in
    let padding = little_number-reads_back 4 c.padding (flat_map (digits 8) c.memory_sizes) fits.padding in
    let sizes = ap (λ n. numbers_of n (flat_map (digits 8) c.memory_sizes)) (sym fits.count) ∙ numbers-read_back c.memory_sizes fits.sizes in
    λ i. record { nregions = nregions i; padding = padding i; memory_sizes = sizes i }

-- the number is seven
abbrev is_seven : ℕ → Bool
is_seven (suc (suc (suc (suc (suc (suc (suc zero))))))) = true
is_seven _ = false

-- what holds of each list of seven holds of a list of that length
of_seven : (P : List ℕ → Type 0) → ((a b c d e f g : ℕ) → P (a ∷ b ∷ c ∷ d ∷ e ∷ f ∷ g ∷ [])) → (xs : List ℕ) → length xs ≡ 7 → P xs
of_seven P h (a ∷ b ∷ c ∷ d ∷ e ∷ f ∷ g ∷ []) count = h a b c d e f g
of_seven P h _ count = absurd (false≢true (ap is_seven count))

pub mmap-length : (m : VhostUserMMap) → MMapFits m → length (mmap_text m) ≡ 40
mmap-length m fits =
    of_seven (λ padding. length (mmap_text (record m { padding = padding })) ≡ 40) (λ a b c d e f g. refl) m.padding fits.padding

pub mmap-reads_back : (m : VhostUserMMap) → MMapFits m → mmap_of (mmap_text m) ≡ m
mmap-reads_back m fits =
    let shmid = little_number-reads_back 1 m.shmid (m.padding ++ digits 8 m.fd_offset ++ digits 8 m.shm_offset ++ digits 8 m.len ++ digits 8 m.flags) fits.shmid in
    let fd_offset = little_number-reads_back 8 m.fd_offset (digits 8 m.shm_offset ++ digits 8 m.len ++ digits 8 m.flags) fits.fd_offset in
    let shm_offset = little_number-reads_back 8 m.shm_offset (digits 8 m.len ++ digits 8 m.flags) fits.shm_offset in
    let len = little_number-reads_back 8 m.len (digits 8 m.flags) fits.len in
    let flags = little_number-reads_back 8 m.flags [] fits.flags in
    of_seven (λ padding. mmap_of (mmap_text (record m { padding = padding })) ≡ record m { padding = padding })
    (λ a b c d e f g i. record { shmid = shmid i; padding = a ∷ b ∷ c ∷ d ∷ e ∷ f ∷ g ∷ []; fd_offset = fd_offset i; shm_offset = shm_offset i; len = len i; flags = flags i })
    m.padding
    fits.padding
