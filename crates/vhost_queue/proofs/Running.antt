-- A descriptor more that is behind a chain as a whole.
use Rattle.std.proofs.Common.{◌≡◌, ℕ, ◌+◌, ◌<◌, List, ◌++◌, length, subst, Option}
use Rattle.std.proofs.lemmas.List.{get_or_default}
use Rattle.std.specs.Prelude.{option_to_list, slice_index_or}
use Rattle.vhost_queue.specs.Queue.{Runs, StepsWhole, steps_on}
use Rattle.vhost_queue.specs.declared.descriptor.Descriptor.{Descriptor}
use Rattle.vhost_queue.specs.declared.descriptor.Segment.{Segment}
use Rattle.vhost_queue.specs.declared.memory.GuestRegion.{GuestRegion}
use Rattle.vhost_queue.specs.declared.queue.Queue.{Queue}

pub runs-on : {rs : List GuestRegion} {copies : List Descriptor} {old : Queue} {at : ℕ} {xs : List Segment} {was : Queue} → Runs rs copies old at xs was → at < length copies
    → (rs' : List GuestRegion) → rs' ≡ rs → (was' : Queue) → was' ≡ was → (o : Option Segment) (now : Queue) (d : Descriptor) → StepsWhole rs' was' (slice_index_or copies at d) o now
    → (ys : List Segment) → ys ≡ xs ++ option_to_list o → Runs rs copies old (at + 1) ys now
runs-on {rs} {copies} {old} {at} {xs} {was} h lt rs' same was' still o now d step ys e =
    let P : List GuestRegion → Type 0 = λ r. StepsWhole r was' (slice_index_or copies at d) o now in
    let Q : Queue → Type 0 = λ q. StepsWhole rs q (slice_index_or copies at d) o now in
    let R : Descriptor → Type 0 = λ x. StepsWhole rs was x o now in
    rw e (steps_on h o lt (λ x. subst R (get_or_default copies at d x lt) (subst Q still (subst P same step))))
