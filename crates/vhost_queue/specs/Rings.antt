-- The three parts of a split queue, and where the fields of its rings lie: virtio 1.2, 2.7.
use Rattle.std.specs.Prelude.{◌≡◌, ℕ, ◌+◌, ◌*◌, ◌<◌, ◌⊎◌, false, List, Ok, Err}
use Rattle.std.specs.Int.{is_power_of_two}
use Rattle.vhost_queue.specs.Memory.{part_of}
use Rattle.vhost_queue.specs.Places.{at}
use Rattle.vhost_queue.specs.declared.error.Error.{Error}
use Rattle.vhost_queue.specs.declared.error.Error.TheVariants.{InvalidSize}
use Rattle.vhost_queue.specs.declared.memory.GuestRegion.{GuestRegion}
use Rattle.vhost_queue.specs.declared.memory.HostRange.{HostRange}
use Rattle.vhost_queue.specs.declared.rings.Rings.{Rings}

abbrev pub table_range : Rings → HostRange
table_range r = at r.desc_table (16 * r.size)

abbrev pub avail_range : Rings → HostRange
avail_range r = at r.avail_ring (6 + 2 * r.size)

abbrev pub used_range : Rings → HostRange
used_range r = at r.used_ring (6 + 8 * r.size)

-- they are mapped where the frontend has them, at these addresses
abbrev pub AreAt : List GuestRegion → Rings → ℕ → ℕ → ℕ → Type 0
AreAt rs r table avail used =
    (part_of rs table (16 * r.size) 16 ≡ Ok (table_range r)) × (part_of rs avail (6 + 2 * r.size) 2 ≡ Ok (avail_range r)) × (part_of rs used (6 + 8 * r.size) 4 ≡ Ok (used_range r))

-- .. or one of them is not, for this reason
abbrev pub Misses : List GuestRegion → ℕ → ℕ → ℕ → ℕ → Error → Type 0
Misses rs size table avail used e = (part_of rs table (16 * size) 16 ≡ Err e) ⊎ (part_of rs avail (6 + 2 * size) 2 ≡ Err e) ⊎ (part_of rs used (6 + 8 * size) 4 ≡ Err e)

-- why there are no rings of this size there
abbrev pub Refuses : List GuestRegion → ℕ → ℕ → ℕ → ℕ → Error → Type 0
Refuses rs size table avail used e = ((e ≡ InvalidSize) × ((size ≡ 0) ⊎ (32768 < size) ⊎ (is_power_of_two size ≡ false))) ⊎ Misses rs size table avail used e
