-- What lies in a region, though other calls came between.
use Rattle.std.proofs.Common.{◌≡◌, List, ap, subst, sym, ◌∙◌}
use Rattle.vhost_queue.proofs.Followed.{LiesIn-within}
use Rattle.vhost_queue.specs.Memory.{LiesIn}
use Rattle.vhost_queue.specs.Rings.{avail_range}
use Rattle.vhost_queue.specs.PackedRings.{driver_range}
use Rattle.vhost_queue.specs.Places.{Within}
use Rattle.vhost_queue.specs.declared.memory.GuestRegion.{GuestRegion}
use Rattle.vhost_queue.specs.declared.memory.HostRange.{HostRange}
use Rattle.vhost_queue.specs.declared.packed_rings.PackedRings.{PackedRings}
use Rattle.vhost_queue.specs.declared.rings.Rings.{Rings}

pub in_avail : (rs : List GuestRegion) (old new : Rings) (place : HostRange) → LiesIn rs (avail_range old) → new ≡ old → Within (avail_range new) place → LiesIn rs place
in_avail rs old new place lies same w =
    let P : Rings → Type 0 = λ r. Within (avail_range r) place in LiesIn-within rs (avail_range old) place lies (subst P same w)

pub in_same : (rs rs' : List GuestRegion) (place : HostRange) → rs' ≡ rs → LiesIn rs' place → LiesIn rs place
in_same rs rs' place same lies = let P : List GuestRegion → Type 0 = λ r. LiesIn r place in subst P same lies

pub in_driver : (rs : List GuestRegion) (old new : PackedRings) (place : HostRange) → LiesIn rs (driver_range old) → new ≡ old → place ≡ driver_range new → LiesIn rs place
in_driver rs old new place lies same is =
    let P : HostRange → Type 0 = λ r. LiesIn rs r in subst P (sym (is ∙ ap (λ (r : PackedRings). driver_range r) same)) lies
