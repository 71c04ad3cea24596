-- What a link did with a buffer before it, added up: first what waited was handed on, and then what the link handed out.
use Rattle.std.proofs.Common.{◌≡◌, ◌∙◌, ℕ, ◌+◌, List, [], ◌∷◌, ◌++◌, refl, sym, ap, subst, append_assoc, arith, Bool, true, false, if◌then◌else◌}
use Rattle.vhost_message.specs.declared.cause.IoCause.{IoCause}
use Rattle.std.proofs.lemmas.List.{append-nil, map-append}
use Rattle.vhost_protocol.specs.Stream.{Cell, Item, Byte, End, plain, items}
use Rattle.vhost_protocol.proofs.ReplyLaws.{plain-append}
use Rattle.vhost_message.specs.Cause.{is_retry}
use Rattle.vhost_link.specs.Law.{Event, Handed, Ended, Taken, Refused, Move, Moved, still, more, move, nothing, done, ◌then◌, refused}
use Rattle.vhost_connection.specs.Pass.{Failed}
use Rattle.vhost_connection.specs.Ahead.{Way, HandsOn, waited, asked, reads_ahead}

-- The link below did this, and so this was handed on, taken in, retried and failed, with these cells waiting before and after.
pub record Went {L H : Type 0} (event : L → Event H → L → Type 0) (old : L) (before : List (Cell H)) (m : Move H) (new : L) (after : List (Cell H)) : Type 0 where
  pub below : Move H
  pub moved : Moved event old below new
  pub handed : items before ++ below.handed ≡ m.handed ++ items after
  pub taken : below.taken ≡ m.taken
  pub retries : below.retries ≡ m.retries
  pub failures : below.failures ≡ m.failures

-- the same, where what waits is known as bytes
record WentOn {L H : Type 0} (event : L → Event H → L → Type 0) (old : Way L) (m : Move H) (new : Way L) : Type 0 where
  below : Move H
  moved : Moved event old.link below new.link
  handed : items (plain old.ahead) ++ below.handed ≡ m.handed ++ items (plain new.ahead)
  taken : below.taken ≡ m.taken
  retries : below.retries ≡ m.retries
  failures : below.failures ≡ m.failures

-- a front of what waits is heard now, and the rest waits on
front-first : {H : Type 0} (front rest : List ℕ) (before : List (Item H)) → before ++ items (plain (front ++ rest)) ≡ (before ++ items (plain front)) ++ items (plain rest)
front-first {H} front rest before =
    ap (λ cs. before ++ items cs) (plain-append H front rest) ∙ ap (λ xs. before ++ xs) (map-append Byte (plain front) (plain rest)) ∙ sym (append_assoc before (items (plain front)) (items (plain rest)))

-- a failure hands out nothing
pub refused-handed : {H : Type 0} (c : IoCause) → (refused {H = H} c).handed ≡ []
refused-handed {H} c = either (is_retry c)
  where
    either : (b : Bool) → (if b then move {H = H} [] [] 1 0 else move [] [] 0 1).handed ≡ []
    either true = refl
    either false = refl

-- where nothing is handed on, what waits stays
pub went-silent : {L H : Type 0} {event : L → Event H → L → Type 0} {old new : L} {m : Move H} (waits : List (Cell H)) → m.handed ≡ [] → Moved event old m new → Went event old waits m new waits
went-silent {m = m} waits none p = record {
  below = m;
  moved = p;
  handed = rw none (append-nil (items waits));
  taken = refl;
  retries = refl;
  failures = refl;
}

-- The link below did this, with these cells waiting before and after, and then it failed with this cause.
pub record WentDown {L H : Type 0} (event : L → Event H → L → Type 0) (old : L) (before : List (Cell H)) (m : Move H) (c : IoCause) (new : L) (after : List (Cell H)) : Type 0 where
  pub link : L
  pub went : Went event old before m link after
  pub last : event link (Refused c) new

pub down-silent : {L H : Type 0} {event : L → Event H → L → Type 0} {old new : L} (m : Move H) (c : IoCause) (waits : List (Cell H)) → m.handed ≡ [] → Failed event old m c new → WentDown event old waits m c new waits
down-silent m c waits none f = record { link = f.before; went = went-silent waits none f.moved; last = f.last }

module _ {L H : Type 0} {event : L → Event H → L → Type 0} where
  handed-step : {old mid new : Way L} {m : Move H} {cs : List (Cell H)} → WentOn event old m mid → HandsOn event mid cs new → WentOn event old (m then done (Handed cs)) new
  handed-step {m = m} t (waited front {rest} some) = record {
    below = t.below;
    moved = t.moved;
    handed = t.handed ∙ front-first front rest m.handed;
    taken = t.taken ∙ sym (append-nil m.taken);
    retries = omega (arith, t.retries);
    failures = omega (arith, t.failures);
  }
  handed-step {m = m} t (asked {cs = cs} rest e) = record {
    below = t.below then done (Handed (cs ++ plain rest));
    moved = more t.moved e;
    handed = sym (append_assoc _ t.below.handed (items (cs ++ plain rest))) ∙ ap (λ xs. xs ++ items (cs ++ plain rest)) (t.handed ∙ append-nil m.handed)
        ∙ ap (λ xs. m.handed ++ xs) (map-append Byte cs (plain rest)) ∙ sym (append_assoc m.handed (items cs) (items (plain rest)));
    taken = ap (λ xs. xs ++ []) t.taken;
    retries = ap (λ n. n + 0) t.retries;
    failures = ap (λ n. n + 0) t.failures;
  }

  -- where nothing is heard, what waits stays
  unheard : (old : Way L) {mid : Way L} (new : Way L) {m : Move H} → (t : WentOn event old m mid) (xs ys : List (Item H)) → xs ≡ [] → ys ≡ [] → new.ahead ≡ mid.ahead
      → items (plain old.ahead) ++ (t.below.handed ++ xs) ≡ (m.handed ++ ys) ++ items (plain new.ahead)
  unheard old new {m = m} t xs ys none_below none same =
      ap (λ zs. items (plain old.ahead) ++ (t.below.handed ++ zs)) none_below ∙ ap (λ zs. items (plain old.ahead) ++ zs) (append-nil t.below.handed) ∙ t.handed
      ∙ ap (λ bs. m.handed ++ items (plain bs)) (sym same) ∙ ap (λ zs. zs ++ items (plain new.ahead)) (sym (append-nil m.handed) ∙ ap (λ zs. m.handed ++ zs) (sym none))

  step : {old mid new : Way L} {m : Move H} → WentOn event old m mid → (e : Event H) → reads_ahead event mid e new → WentOn event old (m then done e) new
  step t (Handed cs) s = handed-step t s
  step {m = m} t Ended s = record {
    below = t.below then done Ended;
    moved = more t.moved s.0;
    handed = sym (append_assoc _ t.below.handed (End ∷ [])) ∙ ap (λ xs. xs ++ (End ∷ [])) (t.handed ∙ ap (λ bs. m.handed ++ items (plain bs)) s.1 ∙ append-nil m.handed)
        ∙ sym (append-nil (m.handed ++ (End ∷ []))) ∙ ap (λ bs. (m.handed ++ (End ∷ [])) ++ items (plain bs)) (sym s.2);
    taken = ap (λ xs. xs ++ []) t.taken;
    retries = ap (λ n. n + 0) t.retries;
    failures = ap (λ n. n + 0) t.failures;
  }
  step {old = old} {new = new} {m = m} t (Taken cs) s = record {
    below = t.below then done (Taken cs);
    moved = more t.moved s.0;
    handed = unheard old new t [] [] refl refl s.1;
    taken = ap (λ xs. xs ++ cs) t.taken;
    retries = ap (λ n. n + 0) t.retries;
    failures = ap (λ n. n + 0) t.failures;
  }
  step {old = old} {new = new} {m = m} t (Refused c) s = record {
    below = t.below then done (Refused c);
    moved = more t.moved s.0;
    handed = unheard old new t (refused c).handed (refused c).handed (refused-handed c) (refused-handed c) s.1;
    taken = ap (λ xs. xs ++ (refused c).taken) t.taken;
    retries = ap (λ n. n + (refused c).retries) t.retries;
    failures = ap (λ n. n + (refused c).failures) t.failures;
  }

  adds : {old new : Way L} {m : Move H} → Moved (reads_ahead event) old m new → WentOn event old m new
  adds still = record { below = nothing; moved = still; handed = append-nil _; taken = refl; retries = refl; failures = refl }
  adds (more {e = e} p ev) = step (adds p) e ev

  -- what was done with the buffer, as what the link did
  pub went : (old : Way L) (m : Move H) (new : Way L) → Moved (reads_ahead event) old m new → Went event old.link (plain old.ahead) m new.link (plain new.ahead)
  went old m new p = let w = adds p in record { below = w.below; moved = w.moved; handed = w.handed; taken = w.taken; retries = w.retries; failures = w.failures }

  pub went-down : (old : Way L) (m : Move H) (c : IoCause) (new : Way L) → Failed (reads_ahead event) old m c new → WentDown event old.link (plain old.ahead) m c new.link (plain new.ahead)
  went-down old m c new f = record {
    link = f.before.link;
    went = subst (λ bs. Went event old.link (plain old.ahead) m f.before.link (plain bs)) (sym f.last.1) (went old m f.before f.moved);
    last = f.last.0;
  }
