-- What has been read of a chain, and what one descriptor more adds to it.
use Rattle.std.proofs.Common.{◌≡◌, ℕ, ◌+◌, ◌*◌, ◌<◌, true, cond, List, [], ◌∷◌, ◌++◌, length, length-append, sym, ◌∙◌, subst, Option, Some, None, arith}
use Rattle.std.specs.Prelude.{All, option_to_list}
use Rattle.std.proofs.lemmas.List.{append-nil}
use Rattle.std.proofs.lemmas.List.Elements.{All-nil, All-push}
use Rattle.std.proofs.lemmas.List.Quantifiers.{all_pairs_push}
use Rattle.vhost_queue.specs.Chain.{Following, GoesOn, table_of}
use Rattle.vhost_queue.specs.Memory.{LiesIn}
use Rattle.vhost_queue.specs.Places.{Within}
use Rattle.vhost_queue.specs.Segment.{IsSafe, ReadableFirst}
use Rattle.vhost_queue.specs.declared.descriptor.Segment.{Segment}
use Rattle.vhost_queue.specs.declared.memory.GuestRegion.{GuestRegion}
use Rattle.vhost_queue.specs.declared.memory.HostRange.{HostRange}

-- a range inside one that lies in a region lies in it, too
pub LiesIn-within : (rs : List GuestRegion) (outer inner : HostRange) → LiesIn rs outer → Within outer inner → LiesIn rs inner
LiesIn-within rs outer inner h w =
    let low = h.2 in let high = h.3 in let below = w.0 in let above = w.1 in
    (h.0, h.1, omega arith, omega arith)

pub record Followed (rs : List GuestRegion) (limit : ℕ) (segments : List Segment) (f : Following) : Type 0 where
  pub counted : length segments + (f.left + f.splits) ≡ limit
  pub inside : All (λ s. LiesIn rs s.range) segments
  pub ordered : ReadableFirst segments
  pub written : All (λ s. s.writable ≡ true → f.writing ≡ true) segments
  pub mapped : LiesIn rs (table_of f)

-- nothing has been read yet
pub followed-none : (rs : List GuestRegion) (f : Following) → LiesIn rs (table_of f) → (xs : List Segment) → xs ≡ [] → Followed rs (f.left + f.splits) xs f
followed-none rs f mapped xs e = rw e (record {
  counted = omega arith;
  inside = All-nil _;
  ordered = λ i j d low high. absurd (omega arith);
  written = All-nil _;
  mapped = mapped;
})

-- a segment came
followed-more : {rs : List GuestRegion} {limit : ℕ} {xs : List Segment} {f : Following} → Followed rs limit xs f
    → (s : Segment) (g : Following) (ys : List Segment) → ys ≡ xs ++ s ∷ [] → GoesOn rs f (Some s) g → Followed rs limit ys g
followed-more {rs} {limit} {xs} {f} h s g ys e on = rw e (record {
  counted = (let more = length-append xs (s ∷ []) in let was = h.counted in let less = on.3 in omega arith);
  inside = All-push (λ s. LiesIn rs s.range) xs s h.inside on.0;
  ordered = all_pairs_push (λ s t. s.writable ≡ true → t.writable ≡ true) xs s h.ordered (λ i d lt w. on.1 (h.written i d lt w));
  written = All-push (λ t. t.writable ≡ true → g.writing ≡ true) xs s (λ i d lt w. on.2 ∙ on.1 (h.written i d lt w)) (λ w. on.2 ∙ w);
  mapped = (let P : HostRange → Type 0 = λ t. LiesIn rs t in subst P (sym on.4) h.mapped);
})

-- an indirect table came
followed-table : {rs : List GuestRegion} {limit : ℕ} {xs : List Segment} {f : Following} → Followed rs limit xs f
    → (g : Following) → GoesOn rs f None g → Followed rs limit xs g
followed-table {rs} {limit} {xs} {f} h g on = record {
  counted = (let was = h.counted in let same = on.2 in let splits = on.3 in omega arith);
  inside = h.inside;
  ordered = h.ordered;
  written = λ i d lt w. on.1 ∙ h.written i d lt w;
  mapped = on.0;
}

-- the chain is at its end
pub followed-safe : {rs : List GuestRegion} {limit : ℕ} {xs : List Segment} {f : Following} → Followed rs limit xs f → IsSafe rs limit xs
followed-safe {rs} {limit} {xs} {f} h = record { inside = h.inside; few = (let was = h.counted in omega arith); ordered = h.ordered }

-- how many steps may come yet, at most
abbrev pub remaining : Following → ℕ
remaining f = 2 * (f.left + f.splits) + cond f.nests 1 0

-- either, as a step's answer tells it
pub followed-on : {rs : List GuestRegion} {limit : ℕ} {xs : List Segment} {f : Following} → Followed rs limit xs f
    → (rs' : List GuestRegion) → rs' ≡ rs → (o : Option Segment) (g : Following) → GoesOn rs' f o g
    → (ys : List Segment) → ys ≡ xs ++ option_to_list o → Followed rs limit ys g
followed-on {rs} {limit} {xs} {f} h rs' same (Some s) g on ys e =
    let P : List GuestRegion → Type 0 = λ r. GoesOn r f (Some s) g in followed-more h s g ys e (subst P same on)
followed-on {rs} {limit} {xs} {f} h rs' same None g on ys e =
    let P : List GuestRegion → Type 0 = λ r. GoesOn r f None g in
    rw (e ∙ append-nil xs) (followed-table h g (subst P same on))

pub remaining-on : (rs : List GuestRegion) (f : Following) (o : Option Segment) (g : Following) → GoesOn rs f o g → remaining g < remaining f
remaining-on rs f (Some s) g on = let less = on.3 in rw (on.5) (omega arith)
remaining-on rs f None g on = let same = on.2 in let splits = on.3 in rw (on.4, on.5) (omega arith)
