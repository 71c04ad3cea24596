-- What has been read of a run of descriptors.
use Rattle.std.proofs.Common.{◌≡◌, true, Bool, List, [], ◌∷◌, ◌++◌, arith}
use Rattle.std.specs.Prelude.{All}
use Rattle.std.proofs.lemmas.List.Elements.{All-nil, All-push}
use Rattle.std.proofs.lemmas.List.Quantifiers.{all_pairs_push}
use Rattle.vhost_queue.specs.Memory.{LiesIn}
use Rattle.vhost_queue.specs.Segment.{ReadableFirst}
use Rattle.vhost_queue.specs.declared.descriptor.Segment.{Segment}
use Rattle.vhost_queue.specs.declared.memory.GuestRegion.{GuestRegion}

pub record Ran (rs : List GuestRegion) (segments : List Segment) (writing : Bool) : Type 0 where
  pub inside : All (λ s. LiesIn rs s.range) segments
  pub ordered : ReadableFirst segments
  pub written : All (λ s. s.writable ≡ true → writing ≡ true) segments

-- nothing has been read yet
pub ran-none : (rs : List GuestRegion) (writing : Bool) → Ran rs [] writing
ran-none rs writing = record { inside = All-nil _; ordered = λ i j d low high. absurd (omega arith); written = All-nil _ }

-- a segment came
pub ran-more : {rs : List GuestRegion} {xs : List Segment} {w : Bool} → Ran rs xs w
    → (s : Segment) (ys : List Segment) → ys ≡ xs ++ s ∷ [] → LiesIn rs s.range → (w ≡ true → s.writable ≡ true) → Ran rs ys s.writable
ran-more {rs} {xs} {w} h s ys e lies on = rw e (record {
  inside = All-push (λ s. LiesIn rs s.range) xs s h.inside lies;
  ordered = all_pairs_push (λ s t. s.writable ≡ true → t.writable ≡ true) xs s h.ordered (λ i d lt p. on (h.written i d lt p));
  written = All-push (λ t. t.writable ≡ true → s.writable ≡ true) xs s (λ i d lt p. on (h.written i d lt p)) (λ p. p);
})
