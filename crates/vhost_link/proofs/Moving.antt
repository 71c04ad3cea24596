-- Marks whose places count from another beginning, and the handles at a place.
use Rattle.std.proofs.Common.{◌≡◌, ℕ, zero, suc, ◌+◌, ◌-◌, ◌<◌, ◌≤◌, List, [], ◌∷◌, ◌++◌, length, take, drop, map, refl, sym, ap, ◌∙◌, arith, ◌⊎◌, inl, inr, Bool, true, false}
use Rattle.std.specs.Prelude.{if◌then◌else◌, ◌==◌, slice_index_or, slice_set}
use Rattle.std.proofs.lemmas.Bool.{eq-eqb, ne_eqb, eqb-true, cases_eq}
use Rattle.vhost_message.specs.declared.limits.TheConstants.{MAX_ATTACHED_FD_ENTRIES}
use Rattle.vhost_protocol.specs.Stream.{cell, first_handles}
use Rattle.vhost_link.specs.declared.mark.Mark.{Mark}
use Rattle.vhost_link.specs.declared.plain.PlainHandle.{PlainHandle}
use Rattle.vhost_link.specs.Marks.{brought, later, marked, Within, found, moved}
use Rattle.vhost_link.proofs.Marking.{Within-later}

-- a moved mark stands at a place where it stood at the place before
same-test : (at to from k : ℕ) → from ≤ at → at ≤ k → (k ≡ at) ⊎ (k ≡ at → ⊥) → (k - from + to == at - from + to) ≡ (k == at)
same-test at to from k lo le (inl is) = eq-eqb (k - from + to) (at - from + to) (omega arith) ∙ sym (eq-eqb k at is)
same-test at to from k lo le (inr apart) = ne_eqb (k - from + to) (at - from + to) (λ e. apart (omega arith)) ∙ sym (ne_eqb k at apart)

brought-moved : (at from to end : ℕ) (ms : List Mark) → from ≤ at → Within at end ms → brought (at - from + to) (map (moved from to) ms) ≡ brought at ms
brought-moved at from to end [] lo w = refl
brought-moved at from to end (m ∷ ms) lo w = ap (λ b. if b then m.handles.items else []) (same-test at to from m.at lo w.0 (cases_eq m.at at))

later-moved-head : (b : Bool) (f : Mark → Mark) (m : Mark) (ms : List Mark) → (if b then map f ms else f m ∷ map f ms) ≡ map f (if b then ms else m ∷ ms)
later-moved-head true f m ms = refl
later-moved-head false f m ms = refl

later-moved : (at from to end : ℕ) (ms : List Mark) → from ≤ at → Within at end ms → later (at - from + to) (map (moved from to) ms) ≡ map (moved from to) (later at ms)
later-moved at from to end [] lo w = refl
later-moved at from to end (m ∷ ms) lo w =
    ap (λ b. if b then map (moved from to) ms else moved from to m ∷ map (moved from to) ms) (same-test at to from m.at lo w.0 (cases_eq m.at at)) ∙ later-moved-head (m.at == at) (moved from to) m ms

-- bytes whose marks have moved
pub marked-moved : (at from to by end : ℕ) (bs : List ℕ) (ms : List Mark) → from ≤ at → by ≡ at - from + to → Within at end ms → marked by bs (map (moved from to) ms) ≡ marked at bs ms
marked-moved at from to by end [] ms lo e w = refl
marked-moved at from to by end (b ∷ bs) ms lo e w =
    ap (λ x. marked x (b ∷ bs) (map (moved from to) ms)) e
    ∙ ap (λ x. cell b x ∷ marked (suc (at - from + to)) bs (later (at - from + to) (map (moved from to) ms))) (brought-moved at from to end ms lo w)
    ∙ ap (λ x. cell b (brought at ms) ∷ marked (suc (at - from + to)) bs x) (later-moved at from to end ms lo w)
    ∙ ap (λ xs. cell b (brought at ms) ∷ xs) (marked-moved (suc at) from to (suc (at - from + to)) end bs (later at ms) (omega arith) (omega arith) (Within-later at end ms w))

pub Within-moved : (at from to by end far : ℕ) (ms : List Mark) → from ≤ at → by ≡ at - from + to → far ≡ end - from + to → Within at end ms → Within by far (map (moved from to) ms)
Within-moved at from to by end far [] lo e f w = tt
Within-moved at from to by end far (m ∷ ms) lo e f w = (
  omega (arith, w.0),
  omega (arith, w.0, w.1),
  w.2,
  Within-moved (suc m.at) from to (suc (m.at - from + to)) end far ms (omega (arith, w.0)) (omega (arith, w.0)) f w.3,
)

-- the handles at a place, by all marks and by the first one
found-before : (at below end : ℕ) (ms : List Mark) → at < below → Within below end ms → found at ms ≡ []
found-before at below end [] lt w = refl
found-before at below end (m ∷ ms) lt w = rw (ne_eqb m.at at (λ e. omega (arith, w.0))) (found-before at (suc m.at) end ms (omega (arith, w.0)) w.3)

found-first : (at end : ℕ) (ms : List Mark) → Within at end ms → found at ms ≡ brought at ms
found-first at end [] w = refl
found-first at end (m ∷ ms) w = ap (λ hs. if m.at == at then m.handles.items else hs) (found-before at (suc m.at) end ms (omega (arith, w.0)) w.3)

found-head : (at place : ℕ) (m : Mark) (ms : List Mark) (b : Bool) → at < place → (m.at == at) ≡ b → found place (if b then ms else m ∷ ms) ≡ found place (m ∷ ms)
found-head at place m ms true lt e = let is = eqb-true m.at at e in rw (ne_eqb m.at place (λ x. omega (arith, is))) refl
found-head at place m ms false lt e = refl

found-later : (at place : ℕ) (ms : List Mark) → at < place → found place (later at ms) ≡ found place ms
found-later at place [] lt = refl
found-later at place (m ∷ ms) lt = found-head at place m ms (m.at == at) lt refl

pub found-marked : (at place end i : ℕ) (bs : List ℕ) (ms : List Mark) → place ≡ at + i → i < length bs → Within at end ms → first_handles (drop i (marked at bs ms)) ≡ found place ms
found-marked at place end i [] ms e lt w = absurd (omega arith)
found-marked at place end zero (b ∷ bs) ms e lt w = sym (found-first at end ms w) ∙ ap (λ x. found x ms) (omega arith)
found-marked at place end (suc i) (b ∷ bs) ms e lt w =
    found-marked (suc at) place end i bs (later at ms) (omega arith) (omega arith) (Within-later at end ms w) ∙ found-later at place ms (omega arith)

found-few-head : (b : Bool) (hs others : List PlainHandle) → length hs ≤ MAX_ATTACHED_FD_ENTRIES → length others ≤ MAX_ATTACHED_FD_ENTRIES → length (if b then hs else others) ≤ MAX_ATTACHED_FD_ENTRIES
found-few-head true hs others p q = p
found-few-head false hs others p q = q

pub found-few : (at below end : ℕ) (ms : List Mark) → Within below end ms → length (found at ms) ≤ MAX_ATTACHED_FD_ENTRIES
found-few at below end [] w = omega arith
found-few at below end (m ∷ ms) w = found-few-head (m.at == at) m.handles.items (found at ms) w.2.1 (found-few at (suc m.at) end ms w.3)

-- marks that are shifted one after another
pub shift-at : (f : Mark → Mark) (i : ℕ) (old : List Mark) (d : Mark) → i < length old → slice_index_or (map f (take i old) ++ drop i old) i d ≡ slice_index_or old i d
shift-at f i [] d lt = absurd (omega arith)
shift-at f zero (m ∷ old) d lt = refl
shift-at f (suc i) (m ∷ old) d lt = shift-at f i old d (omega arith)

pub shift-set : (f : Mark → Mark) (i : ℕ) (old : List Mark) (d : Mark) → i < length old
    → slice_set (map f (take i old) ++ drop i old) i (f (slice_index_or old i d)) ≡ map f (take (suc i) old) ++ drop (suc i) old
shift-set f i [] d lt = absurd (omega arith)
shift-set f zero (m ∷ old) d lt = refl
shift-set f (suc i) (m ∷ old) d lt = ap (λ xs. f m ∷ xs) (shift-set f i old d (omega arith))

within-at : (i at end : ℕ) (ms : List Mark) (d : Mark) → i < length ms → Within at end ms → at ≤ (slice_index_or ms i d).at
within-at i at end [] d lt w = absurd (omega arith)
within-at zero at end (m ∷ ms) d lt w = w.0
within-at (suc i) at end (m ∷ ms) d lt w = omega (arith, w.0, within-at i (suc m.at) end ms d (omega arith) w.3)

-- the mark at an index, which was not shifted before
pub not-shifted : (f : Mark → Mark) (i : ℕ) (old now : List Mark) (m : Mark) → now ≡ map f (take i old) ++ drop i old → i < length old → m ≡ slice_index_or now i m → m ≡ slice_index_or old i m
not-shifted f i old now m is lt e = e ∙ ap (λ xs. slice_index_or xs i m) is ∙ shift-at f i old m lt

pub shift-bound : (i from end : ℕ) (old : List Mark) (m : Mark) → i < length old → Within from end old → m ≡ slice_index_or old i m → from ≤ m.at
shift-bound i from end old m lt w e = let le : from ≤ (slice_index_or old i m).at = within-at i from end old m lt w in omega (arith, le, ap (λ x. x.at) e)

pub shift-one : (from i next : ℕ) (old now : List Mark) (m : Mark) → next ≡ suc i → now ≡ map (moved from 0) (take i old) ++ drop i old → i < length old → m ≡ slice_index_or old i m
    → slice_set now i (record { at = m.at - from; handles = m.handles }) ≡ map (moved from 0) (take next old) ++ drop next old
shift-one from i next old now m n is lt e =
    ap (λ xs. slice_set xs i (record { at = m.at - from; handles = m.handles })) is
    ∙ ap (λ k. slice_set (map (moved from 0) (take i old) ++ drop i old) i (record { at = k; handles = m.handles })) (omega arith)
    ∙ ap (λ x. slice_set (map (moved from 0) (take i old) ++ drop i old) i (moved from 0 x)) e
    ∙ shift-set (moved from 0) i old m lt
    ∙ ap (λ k. map (moved from 0) (take k old) ++ drop k old) (sym n)
