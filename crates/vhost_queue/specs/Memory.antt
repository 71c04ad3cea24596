-- Guest memory: which ranges of addresses lie in one region, and where they are mapped.
use Rattle.std.specs.Prelude.{◌≡◌, ◌<◌, min, ◌%◌, ◌⊎◌, false, length, slice_index_or, All, AllPairs, true, ℕ, ◌+◌, ◌-◌, ◌≤◌, ◌^◌, Bool, not, ◌&&◌, ◌||◌, List, [], ◌∷◌, ◌==◌, nat_le, nat_lt, Result, Ok, Err, Contains, if◌then◌else◌}
use Rattle.vhost_queue.specs.declared.error.Error.{Error}
use Rattle.vhost_queue.specs.declared.error.Error.TheVariants.{NotInGuest, InvalidRegion, TooManyRegions, RegionOverlap, OutOfMemory, Unaligned}
use Rattle.vhost_queue.specs.declared.memory.AddressSpace.{AddressSpace}
use Rattle.vhost_queue.specs.declared.memory.AddressSpace.TheVariants.{Guest, User}
use Rattle.vhost_queue.specs.declared.memory.GuestRegion.{GuestRegion}
use Rattle.vhost_queue.specs.declared.memory.HostRange.{HostRange}

-- not empty, and no end beyond 64 bits
abbrev pub is_region : GuestRegion → Bool
is_region r = not (r.size == 0) && nat_lt (r.guest_addr + r.size) (2 ^ 64) && nat_lt (r.user_addr + r.size) (2 ^ 64) && nat_lt (r.host_addr + r.size) (2 ^ 64)

-- the addresses and the size of a region
abbrev pub is_at : GuestRegion → ℕ → ℕ → ℕ → Bool
is_at r guest n user = (r.guest_addr == guest) && (r.size == n) && (r.user_addr == user)

-- n bytes at a and m bytes at b have no address in common
abbrev pub are_apart : ℕ → ℕ → ℕ → ℕ → Bool
are_apart a n b m = nat_le (a + n) b || nat_le (b + m) a

-- .. neither for the guest nor for the frontend
abbrev pub is_apart : GuestRegion → GuestRegion → Bool
is_apart r s = are_apart r.guest_addr r.size s.guest_addr s.size && are_apart r.user_addr r.size s.user_addr s.size

-- where a region begins
abbrev pub base : AddressSpace → GuestRegion → ℕ
base Guest r = r.guest_addr
base User r = r.user_addr

-- the n bytes at an address, one at least, all lie in the region
abbrev pub holds : AddressSpace → GuestRegion → ℕ → ℕ → Bool
holds space r a n = not (n == 0) && nat_le (base space r) a && nat_le (a + n) (base space r + r.size)

-- where such bytes are mapped
abbrev pub mapped_in : AddressSpace → GuestRegion → ℕ → ℕ → HostRange
mapped_in space r a n = record { addr = r.host_addr + (a - base space r); len = n }

-- .. in a region that has them: the first, and where regions are apart the only one
abbrev pub translated : AddressSpace → List GuestRegion → ℕ → ℕ → Result HostRange Error
translated space [] a n = Err NotInGuest
translated space (r ∷ rs) a n = if holds space r a n then Ok (mapped_in space r a n) else translated space rs a n

-- where the first of n bytes at a guest's address are mapped: as many as lie in the region that has the first of them
abbrev pub translated_part : List GuestRegion → ℕ → ℕ → Result HostRange Error
translated_part [] a n = Err NotInGuest
translated_part (r ∷ rs) a n = if holds Guest r a 1 then Ok (mapped_in Guest r a (min n (r.size - (a - r.guest_addr)))) else translated_part rs a n

-- the range lies inside what one of the regions is mapped to
abbrev pub LiesIn : List GuestRegion → HostRange → Type 0
LiesIn rs range = (r : GuestRegion) × Contains rs r × (r.host_addr ≤ range.addr) × (range.addr + range.len ≤ r.host_addr + r.size)

-- a region shares addresses with one of these
abbrev pub Overlaps : List GuestRegion → GuestRegion → Type 0
Overlaps rs region = (k : ℕ) × (k < length rs) × ((d : GuestRegion) → is_apart (slice_index_or rs k d) region ≡ false)

-- why a region is not added to these
abbrev pub Refuses : List GuestRegion → GuestRegion → Error → Type 0
Refuses rs region e =
    ((e ≡ InvalidRegion) × (is_region region ≡ false)) ⊎ ((e ≡ TooManyRegions) × (509 ≤ length rs)) ⊎ ((e ≡ RegionOverlap) × Overlaps rs region) ⊎ (e ≡ OutOfMemory)

-- what regions have to be together
abbrev pub AreRegions : List GuestRegion → Type 0
AreRegions rs = All (λ r. is_region r ≡ true) rs × AllPairs (λ r s. is_apart r s ≡ true) rs × (length rs ≤ 509)

-- why regions are refused together
abbrev pub RefusesAll : List GuestRegion → Error → Type 0
RefusesAll rs e =
    ((e ≡ InvalidRegion) × ¬ All (λ r. is_region r ≡ true) rs) ⊎ ((e ≡ TooManyRegions) × (509 < length rs)) ⊎ ((e ≡ RegionOverlap) × ¬ AllPairs (λ r s. is_apart r s ≡ true) rs) ⊎ (e ≡ OutOfMemory)

-- where a part of a queue is mapped that lies at an address of the frontend's: at a multiple of this
abbrev pub aligned : ℕ → Result HostRange Error → Result HostRange Error
aligned n (Ok range) = if range.addr % n == 0 then Ok range else Err Unaligned
aligned n (Err e) = Err e

abbrev pub part_of : List GuestRegion → ℕ → ℕ → ℕ → Result HostRange Error
part_of rs a len n = aligned n (translated User rs a len)
