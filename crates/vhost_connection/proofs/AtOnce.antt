-- A link that takes in all that it is given takes in a text by one call.
use Rattle.std.proofs.Common.{◌≡◌, ℕ, ◌+◌, ◌<◌, ◌≤◌, List, [], length, take, drop, true, false, Bool, ◌⊎◌, inl, inr, ap, subst, ◌∙◌, arith}
use Rattle.std.specs.Prelude.{if◌then◌else◌}
use Rattle.std.proofs.lemmas.List.{take_all}
use Rattle.vhost_message.specs.declared.cause.IoCause.{IoCause}
use Rattle.vhost_message.specs.Cause.{is_retry}
use Rattle.vhost_protocol.specs.Stream.{Cell}
use Rattle.vhost_link.specs.Law.{Event, Taken, Refused, Moved, move, ◌then◌}
use Rattle.vhost_link.specs.Law.Moved.{still, more}
use Rattle.vhost_link.proofs.Moves.{Moved-as}
use Rattle.vhost_connection.specs.Pass.{sends, WentAtOnce, WentNot}

-- so far nothing went, and the link takes in all; or all went by one call
abbrev pub SoFar : {S H : Type 0} → (S → Event H → S → Type 0) → (S → Type 0) → S → List (Cell H) → ℕ → S → Type 0
SoFar event takes_all old text count link = ((count ≡ 0) × takes_all link) ⊎ ((count ≡ length text) × WentAtOnce event old text link)

-- the one call
pub goes : {S H : Type 0} {event : S → Event H → S → Type 0} {old mid new : S} (takes_all : S → Type 0) (text : List (Cell H)) (count n r : ℕ)
    → count < length text → Moved event old (sends (take count text) r) mid → event mid (Taken (take n (drop count text))) new
    → SoFar event takes_all old text count mid → (count ≡ 0 → takes_all mid → n ≡ length text) → SoFar event takes_all old text (count + n) new
goes {event = event} {mid = mid} {new = new} takes_all text count n r lt p e (inl (z, w)) all =
    let k = all z w in
    inr (
      omega (arith, k),
      record {
        retries = r;
        before = mid;
        waited = Moved-as (ap (λ i. sends (take i text) r) z) p;
        taken = subst (λ cs. event mid (Taken cs) new) (ap (λ i. take n (drop i text)) z ∙ take_all n text (omega (arith, k))) e;
      },
    )
goes takes_all text count n r lt p e (inr (z, w)) all = absurd (omega (arith, z))

-- a call that asks for one more
pub waits : {S H : Type 0} {event : S → Event H → S → Type 0} {old mid new : S} (takes_all : S → Type 0) (text : List (Cell H)) (count : ℕ)
    → count < length text → SoFar event takes_all old text count mid → (count ≡ 0 → takes_all mid → takes_all new) → SoFar event takes_all old text count new
waits takes_all text count lt (inl (z, w)) all = inl (z, all z w)
waits takes_all text count lt (inr (z, w)) all = absurd (omega (arith, z))

-- nothing was left behind
pub gone : {S H : Type 0} {event : S → Event H → S → Type 0} {old new : S} (takes_all : S → Type 0) (text : List (Cell H)) (count : ℕ)
    → 0 < length text → length text ≤ count → SoFar event takes_all old text count new → WentAtOnce event old text new
gone takes_all text count some le (inl (z, w)) = absurd (omega (arith, z))
gone takes_all text count some le (inr (z, w)) = w

refused-as : {S H : Type 0} (event : S → Event H → S → Type 0) (old new : S) (r : ℕ) (b : Bool) → Moved event old (sends [] r then (if b then move [] [] 1 0 else move [] [] 0 1)) new → WentNot event old new
refused-as event old new r true p = record { retries = r + 1; failures = 0; moved = p }
refused-as event old new r false p = record { retries = r + 0; failures = 1; moved = p }

-- nothing went
pub kept : {S H : Type 0} {event : S → Event H → S → Type 0} {old mid new : S} (takes_all : S → Type 0) (text : List (Cell H)) (count r : ℕ) (c : IoCause)
    → count < length text → Moved event old (sends (take count text) r) mid → event mid (Refused c) new → SoFar event takes_all old text count mid → WentNot event old new
kept {event = event} {old = old} {new = new} takes_all text count r c lt p e (inl (z, w)) = refused-as event old new r (is_retry c) (more (Moved-as (ap (λ i. sends (take i text) r) z) p) e)
kept takes_all text count r c lt p e (inr (z, w)) = absurd (omega (arith, z))

-- the link was not called
pub unasked : {S H : Type 0} {event : S → Event H → S → Type 0} {s : S} → WentNot event s s
unasked = record { retries = 0; failures = 0; moved = still }
