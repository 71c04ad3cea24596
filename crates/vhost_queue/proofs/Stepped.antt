-- What a step of a split queue leaves as it was.
use Rattle.std.proofs.Common.{◌≡◌, Bool, true, false, List, Option, Result, Ok, Err, refl, subst}
use Rattle.std.specs.Prelude.{IfOk}
use Rattle.vhost_queue.specs.Chain.{Following, step}
use Rattle.vhost_queue.specs.Queue.{State, stepped, with_chain}
use Rattle.vhost_queue.specs.declared.descriptor.Descriptor.{Descriptor}
use Rattle.vhost_queue.specs.declared.descriptor.Segment.{Segment}
use Rattle.vhost_queue.specs.declared.error.Error.{Error}
use Rattle.vhost_queue.specs.declared.memory.GuestRegion.{GuestRegion}

abbrev Keeps : State → Result (Option Segment × State) Error → Type 0
Keeps s r = IfOk r (λ out. (out.1.next_used ≡ s.next_used) × (out.1.out ≡ s.out))

chained : (s : State) (r : Result (Option Segment × Following) Error) → Keeps s (with_chain s r)
chained s (Ok out) = (refl, refl)
chained s (Err e) = tt

keeps : (rs : List GuestRegion) (s : State) (d : Descriptor) → Keeps s (stepped rs s d)
keeps rs s d =
    let split : (b : Bool) → s.needs_reset ≡ b → Keeps s (stepped rs s d)
    = λ b. elim b as (λ b. s.needs_reset ≡ b → Keeps s (stepped rs s d)) [
      | true ↦ λ e. rw e tt
      | false ↦ λ e. rw e (chained (record s { needs_reset = false }) (step rs s.chain d))
    ]
    in split s.needs_reset refl

pub stepped-keeps : (rs : List GuestRegion) (s : State) (d : Descriptor) (o : Option Segment) (t : State) → stepped rs s d ≡ Ok (o, t) → (t.next_used ≡ s.next_used) × (t.out ≡ s.out)
stepped-keeps rs s d o t e = subst (Keeps s) e (keeps rs s d)
