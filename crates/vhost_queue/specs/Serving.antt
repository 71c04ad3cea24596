-- What a device that serves a queue may touch.
use Rattle.std.specs.Prelude.{List}
use Rattle.vhost_queue.specs.Memory.{LiesIn}
use Rattle.vhost_queue.specs.PackedRings.{ring_range, driver_range, device_range}
use Rattle.vhost_queue.specs.Rings.{table_range, avail_range, used_range}
use Rattle.vhost_queue.specs.declared.memory.GuestRegion.{GuestRegion}
use Rattle.vhost_queue.specs.declared.packed_rings.PackedRings.{PackedRings}
use Rattle.vhost_queue.specs.declared.rings.Rings.{Rings}

-- the three parts of a queue each lie in a region
abbrev pub AreMapped : List GuestRegion → Rings → Type 0
AreMapped rs r = LiesIn rs (table_range r) × LiesIn rs (avail_range r) × LiesIn rs (used_range r)

abbrev pub ArePackedMapped : List GuestRegion → PackedRings → Type 0
ArePackedMapped rs r = LiesIn rs (ring_range r) × LiesIn rs (driver_range r) × LiesIn rs (device_range r)
