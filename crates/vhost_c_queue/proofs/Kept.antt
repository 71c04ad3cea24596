-- What has been read of a chain that was read before, and what one descriptor more adds to it.
use Rattle.std.proofs.Common.{◌≡◌, ℕ, ◌+◌, Bool, List, [], ◌∷◌, ◌++◌, length, length-append, sym, ◌∙◌, ap, subst, Option, Some, None, arith}
use Rattle.std.specs.Prelude.{option_to_list}
use Rattle.std.proofs.lemmas.List.{append-nil}
use Rattle.vhost_queue.proofs.Ran.{Ran, ran-none, ran-more}
use Rattle.vhost_queue.specs.Chain.{Following, GoesOn}
use Rattle.vhost_queue.specs.Segment.{IsSafe}
use Rattle.vhost_queue.specs.declared.descriptor.Segment.{Segment}
use Rattle.vhost_queue.specs.declared.memory.GuestRegion.{GuestRegion}

pub record Kept (rs : List GuestRegion) (limit : ℕ) (segments : List Segment) (f : Following) : Type 0 where
  pub counted : length segments + (f.left + f.splits) ≡ limit
  pub ran : Ran rs segments f.writing

-- nothing has been read yet
pub kept-none : (rs : List GuestRegion) (f : Following) (xs : List Segment) → xs ≡ [] → Kept rs (f.left + f.splits) xs f
kept-none rs f xs e = rw e (record { counted = omega arith; ran = ran-none rs f.writing })

-- a step was made
pub kept-on : {rs : List GuestRegion} {limit : ℕ} {xs : List Segment} {f : Following} → Kept rs limit xs f
    → (rs' : List GuestRegion) → rs' ≡ rs → (o : Option Segment) (g : Following) → GoesOn rs' f o g
    → (ys : List Segment) → ys ≡ xs ++ option_to_list o → Kept rs limit ys g
kept-on {rs} {limit} {xs} {f} h rs' same (Some s) g on' ys e =
    let P : List GuestRegion → Type 0 = λ r. GoesOn r f (Some s) g in let on = subst P same on' in record {
      counted = (let more = ap length e ∙ length-append xs (s ∷ []) in let was = h.counted in let less = on.3 in omega arith);
      ran = (let Q : Bool → Type 0 = λ w. Ran rs ys w in subst Q (sym on.2) (ran-more h.ran s ys e on.0 on.1));
    }
kept-on {rs} {limit} {xs} {f} h rs' same None g on ys e = rw (e ∙ append-nil xs) (record {
  counted = (let was = h.counted in let left = on.2 in let splits = on.3 in omega arith);
  ran = (let Q : Bool → Type 0 = λ w. Ran rs xs w in subst Q (sym on.1) h.ran);
})

-- what a device may rely on
pub kept-safe : {rs : List GuestRegion} {limit : ℕ} {xs : List Segment} {f : Following} → Kept rs limit xs f → IsSafe rs limit xs
kept-safe h = record { inside = h.ran.inside; few = (let was = h.counted in omega arith); ordered = h.ran.ordered }
