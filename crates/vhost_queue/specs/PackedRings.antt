-- The three parts of a packed queue: virtio 1.2, 2.8.
use Rattle.std.specs.Prelude.{◌≡◌, ℕ, ◌*◌, ◌<◌, ◌⊎◌, List, Ok, Err}
use Rattle.vhost_queue.specs.Memory.{part_of}
use Rattle.vhost_queue.specs.Places.{at}
use Rattle.vhost_queue.specs.declared.error.Error.{Error}
use Rattle.vhost_queue.specs.declared.error.Error.TheVariants.{InvalidSize}
use Rattle.vhost_queue.specs.declared.memory.GuestRegion.{GuestRegion}
use Rattle.vhost_queue.specs.declared.memory.HostRange.{HostRange}
use Rattle.vhost_queue.specs.declared.packed_rings.PackedRings.{PackedRings}

abbrev pub ring_range : PackedRings → HostRange
ring_range r = at r.desc_ring (16 * r.size)

abbrev pub driver_range : PackedRings → HostRange
driver_range r = at r.driver_event 4

abbrev pub device_range : PackedRings → HostRange
device_range r = at r.device_event 4

-- they are mapped where the frontend has them, at these addresses
abbrev pub AreAt : List GuestRegion → PackedRings → ℕ → ℕ → ℕ → Type 0
AreAt rs r ring driver device =
    (part_of rs ring (16 * r.size) 16 ≡ Ok (ring_range r)) × (part_of rs driver 4 4 ≡ Ok (driver_range r)) × (part_of rs device 4 4 ≡ Ok (device_range r))

-- .. or one of them is not, for this reason
abbrev pub Misses : List GuestRegion → ℕ → ℕ → ℕ → ℕ → Error → Type 0
Misses rs size ring driver device e = (part_of rs ring (16 * size) 16 ≡ Err e) ⊎ (part_of rs driver 4 4 ≡ Err e) ⊎ (part_of rs device 4 4 ≡ Err e)

-- why there are no rings of this size there
abbrev pub Refuses : List GuestRegion → ℕ → ℕ → ℕ → ℕ → Error → Type 0
Refuses rs size ring driver device e = ((e ≡ InvalidSize) × ((size ≡ 0) ⊎ (32768 < size))) ⊎ Misses rs size ring driver device e
