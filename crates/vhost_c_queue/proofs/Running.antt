-- What a run of a chain's first descriptors makes of a queue is what as many steps make of it.
use Rattle.std.proofs.Common.{◌≡◌, ℕ, ◌+◌, false, List, [], ◌++◌, ap, refl}
use Rattle.std.specs.Prelude.{is_some, option_to_list}
use Rattle.vhost_c_queue.proofs.Gone.{walks-on}
use Rattle.vhost_c_queue.proofs.Kept.{Kept, kept-none, kept-on}
use Rattle.vhost_c_queue.specs.Walking.{RunsBy, Walks, chain_of, most_segments, none}
use Rattle.vhost_c_queue.specs.declared.device_queue.Ring.{Ring}
use Rattle.vhost_c_queue.specs.declared.device_queue.Ring.TheVariants.{Stopped, Split, Packed}
use Rattle.vhost_queue.specs.Queue.{Runs, state, stays, steps_on}
use Rattle.vhost_queue.specs.declared.descriptor.Descriptor.{Descriptor}
use Rattle.vhost_queue.specs.declared.descriptor.Segment.{Segment}
use Rattle.vhost_queue.specs.declared.memory.GuestRegion.{GuestRegion}
use Rattle.vhost_queue.specs.declared.queue.Queue.{Queue}

any : Descriptor
any = record { addr = 0; len = 0; flags = 0; next = 0 }

runs-walks : {rs : List GuestRegion} {copies : List Descriptor} {q p : Queue} {n : ℕ} {xs : List Segment} → Runs rs copies q n xs p → Walks rs copies (Split q) n xs (Split p)
runs-walks stays = none
runs-walks {rs} {copies} {q} {p} (steps_on {at} {xs} {was} {now} h o lt step) =
    walks-on (runs-walks h) lt rs refl o (Split now) any (step any).0 false (ap is_some (step any).2) (xs ++ option_to_list o) refl

runs-kept : {rs : List GuestRegion} {copies : List Descriptor} {q p : Queue} {n : ℕ} {xs : List Segment} → Runs rs copies q n xs p
    → Kept rs (most_segments (state q).chain) xs (state p).chain
runs-kept {rs} {copies} {q} stays = kept-none rs (state q).chain [] refl
runs-kept {rs} {copies} {q} {p} (steps_on {at} {xs} {was} {now} h o lt step) =
    kept-on (runs-kept h) rs refl o (state now).chain (step any).1 (xs ++ option_to_list o) refl

pub record Ran-by (rs : List GuestRegion) (copies : List Descriptor) (n : ℕ) (xs : List Segment) (old new : Ring) : Type 0 where
  pub walks : Walks rs copies old n xs new
  pub kept : Kept rs (most_segments (chain_of old)) xs (chain_of new)

nothing-ran : (rs : List GuestRegion) (copies : List Descriptor) (n : ℕ) (xs : List Segment) (old new : Ring) → n ≡ 0 → xs ≡ [] → new ≡ old → Ran-by rs copies n xs old new
nothing-ran rs copies n xs old new n0 e same = rw (n0, e, same) (record { walks = none; kept = kept-none rs (chain_of old) [] refl })

pub ran-by : (rs : List GuestRegion) (copies : List Descriptor) (n : ℕ) (xs : List Segment) (old new : Ring) → RunsBy rs copies n xs old new → Ran-by rs copies n xs old new
ran-by rs copies n xs (Split q) (Split p) h = record { walks = runs-walks h; kept = runs-kept h }
ran-by rs copies n xs (Packed q) (Packed p) h = nothing-ran rs copies n xs (Packed q) (Packed p) h.0 h.1 (ap Packed h.2)
ran-by rs copies n xs Stopped Stopped h = nothing-ran rs copies n xs Stopped Stopped h.0 h.1 refl
ran-by rs copies n xs Stopped (Split p) h = absurd h
ran-by rs copies n xs Stopped (Packed p) h = absurd h
ran-by rs copies n xs (Split q) Stopped h = absurd h
ran-by rs copies n xs (Split q) (Packed p) h = absurd h
ran-by rs copies n xs (Packed q) Stopped h = absurd h
ran-by rs copies n xs (Packed q) (Split p) h = absurd h
