-- A step more of a chain that was read before.
use Rattle.std.proofs.Common.{◌≡◌, ℕ, ◌+◌, ◌<◌, Bool, List, ◌++◌, length, subst, Option, Ok}
use Rattle.std.proofs.lemmas.List.{get_or_default}
use Rattle.std.specs.Prelude.{option_to_list, is_some, slice_index_or, if◌then◌else◌}
use Rattle.vhost_queue.specs.declared.descriptor.Descriptor.{Descriptor}
use Rattle.vhost_queue.specs.declared.descriptor.Segment.{Segment}
use Rattle.vhost_queue.specs.declared.memory.GuestRegion.{GuestRegion}
use Rattle.vhost_c_queue.specs.Walking.{Steps, Walks, one, chain_of}
use Rattle.vhost_c_queue.specs.declared.device_queue.Ring.{Ring}

pub walks-on : {rs : List GuestRegion} {copies : List Descriptor} {old : Ring} {at : ℕ} {xs : List Segment} {was : Ring} → Walks rs copies old at xs was → at < length copies
    → (rs' : List GuestRegion) → rs' ≡ rs → (o : Option Segment) (now : Ring) (d : Descriptor) → Steps rs' (slice_index_or copies at d) (Ok o) was now
    → (b : Bool) → is_some (chain_of now).rest ≡ b → (ys : List Segment) → ys ≡ xs ++ option_to_list o → Walks rs copies old (if b then at else at + 1) ys now
walks-on {rs} {copies} {old} {at} {xs} {was} h lt rs' same o now d step b rest ys e =
    let P : List GuestRegion → Type 0 = λ r. Steps r (slice_index_or copies at d) (Ok o) was now in
    let R : Descriptor → Type 0 = λ x. Steps rs x (Ok o) was now in
    let Q : Bool → Type 0 = λ b. Walks rs copies old (if b then at else at + 1) (xs ++ option_to_list o) now in
    rw e (subst Q rest (one h o lt (λ x. subst R (get_or_default copies at d x lt) (subst P same step))))
